use Rattle.map_files.specs.MapValues.{is_sum}
use Rattle.exodus_mesh.proofs.FirstNot.{AllGood}
use Rattle.map_files.proofs.values.first_other_source.Given as goal

abbrev pub invariant-loop-k : goal.invariant-loop-k
invariant-loop-k l = AllGood (is_sum l.areas l.sums) l.k
