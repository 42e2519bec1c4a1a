use Rattle.map_files.specs.MapValues.{is_good_map_row}
use Rattle.exodus_mesh.proofs.FirstNot.{AllGood}
use Rattle.map_files.proofs.values.first_bad_row.Given as goal

abbrev pub invariant-loop-number : goal.invariant-loop-number
invariant-loop-number l = AllGood (is_good_map_row l.vars.n_a l.vars.n_b (record { col = l.col; row = l.row; s = l.s })) l.number
