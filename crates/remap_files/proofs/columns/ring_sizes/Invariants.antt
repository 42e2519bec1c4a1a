use Rattle.std.proofs.Common.{◌≡◌, take}
use Rattle.clip.specs.Columns.{ring_size_column}
use Rattle.remap_files.proofs.columns.ring_sizes.Given as goal

abbrev pub invariant-loop-piece : goal.invariant-loop-piece
invariant-loop-piece l = l.values.items ≡ ring_size_column (take l.piece-index l.pieces)
