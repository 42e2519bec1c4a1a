use Rattle.map_files.specs.MapValues.{is_sum_of_some}
use Rattle.exodus_mesh.proofs.FirstNot.{AllGood}
use Rattle.map_files.proofs.values.first_other_target.Given as goal

abbrev pub invariant-loop-k : goal.invariant-loop-k
invariant-loop-k l = AllGood (is_sum_of_some l.areas l.sums) l.k
