use Rattle.std.proofs.Common.{◌≡◌, take}
use Rattle.clip.specs.Columns.{target_column}
use Rattle.remap_files.proofs.columns.targets.Given as goal

abbrev pub invariant-loop-piece : goal.invariant-loop-piece
invariant-loop-piece l = l.values.items ≡ target_column (take l.piece-index l.pieces)
