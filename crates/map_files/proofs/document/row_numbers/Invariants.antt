use Rattle.std.proofs.Common.{◌≡◌, take}
use Rattle.map_files.specs.MapDocument.{row_column}
use Rattle.map_files.proofs.document.row_numbers.Given as goal

abbrev pub invariant-loop-row : goal.invariant-loop-row
invariant-loop-row l = l.values.items ≡ row_column (take l.row-index l.rows)
