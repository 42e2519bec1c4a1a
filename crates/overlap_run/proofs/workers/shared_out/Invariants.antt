use Rattle.overlap_run.proofs.workers.shared_out.Given as goal

abbrev pub ghosts-alone : goal.ghosts-alone
ghosts-alone g a = record { name = a.blank.name; parts = a.blank.parts }
