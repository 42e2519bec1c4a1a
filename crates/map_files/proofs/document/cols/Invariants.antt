use Rattle.std.proofs.Common.{◌≡◌, take}
use Rattle.map_files.specs.MapDocument.{col_column}
use Rattle.map_files.proofs.document.cols.Given as goal

abbrev pub invariant-loop-row : goal.invariant-loop-row
invariant-loop-row l = l.values.items ≡ col_column (take l.row-index l.rows)
