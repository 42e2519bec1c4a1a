use Rattle.tempest_rows.proofs.workers.is_plain.Given as goal

abbrev pub ghosts-is_plain_counted : goal.ghosts-is_plain_counted
ghosts-is_plain_counted a = record { name = a.blank.name; parts = a.blank.parts }
