use Rattle.tempest_rows.proofs.workers.piece_count.Given as goal

abbrev pub ghosts-counted_block : goal.ghosts-counted_block
ghosts-counted_block a = record { name = a.blank.name; parts = a.blank.parts }
