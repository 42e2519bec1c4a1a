use Rattle.std.proofs.Common.{◌≡◌}
use Rattle.map_files.specs.MapValues.{map_rows_of}
use Rattle.map_files.proofs.values.make_rows.Given as goal

abbrev pub invariant-loop-number : goal.invariant-loop-number
invariant-loop-number l = l.rows.items ≡ map_rows_of l.number (record { col = l.col; row = l.row; s = l.s })
