use Rattle.crate_rows.proofs.clipping.rings_of_pairs.Given as goal

abbrev pub ghosts-clipped : goal.ghosts-clipped
ghosts-clipped g a = record { name = a.blank.name; parts = a.blank.parts }
