use Rattle.crate_rows.proofs.vectors.steps.Given as goal

abbrev pub ghosts-take_two : goal.ghosts-take_two
ghosts-take_two a = record { name = a.blank.name; parts = a.blank.parts }
