use Rattle.crate_rows.proofs.clipping.corners_of_a_ring.Given as goal

abbrev pub ghosts-clipped : goal.ghosts-clipped
ghosts-clipped g a = record { name = a.blank.name; parts = a.blank.parts }
