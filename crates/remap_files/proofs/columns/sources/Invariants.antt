use Rattle.std.proofs.Common.{◌≡◌, take}
use Rattle.clip.specs.Columns.{source_column}
use Rattle.remap_files.proofs.columns.sources.Given as goal

abbrev pub invariant-loop-piece : goal.invariant-loop-piece
invariant-loop-piece l = l.values.items ≡ source_column (take l.piece-index l.pieces)
