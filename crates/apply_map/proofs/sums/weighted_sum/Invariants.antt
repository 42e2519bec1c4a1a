use Rattle.std.proofs.Common.{take}
use Rattle.apply_map.specs.Values.{carried}
use Rattle.apply_map.proofs.SumSteps.{SumOf}
use Rattle.apply_map.proofs.sums.weighted_sum.Given as goal

abbrev pub invariant-loop-row : goal.invariant-loop-row
invariant-loop-row l = SumOf (carried l.values l.first) (take l.row-index l.rows) l.sum
