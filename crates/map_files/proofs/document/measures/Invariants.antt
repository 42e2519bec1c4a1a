use Rattle.std.proofs.Common.{◌≡◌, take}
use Rattle.map_files.specs.MapDocument.{measure_column}
use Rattle.map_files.proofs.document.measures.Given as goal

abbrev pub invariant-loop-row : goal.invariant-loop-row
invariant-loop-row l = l.values.items ≡ measure_column (take l.row-index l.rows)
