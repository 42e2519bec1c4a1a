use Rattle.field_rows.proofs.overlaps.octants.Given as goal

abbrev pub ghosts-run_once : goal.ghosts-run_once
ghosts-run_once g a = record { name = a.blank.name; parts = a.blank.parts }
