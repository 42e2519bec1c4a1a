use Rattle.overlap_run.proofs.workers.SourceBlocksBlockJob.run.Given as goal

abbrev pub ghosts-counted_block : goal.ghosts-counted_block
ghosts-counted_block g a = record { name = a.blank.name; parts = a.blank.parts }
