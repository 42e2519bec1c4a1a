use Rattle.std.proofs.Common.{take}
use Rattle.apply_map.specs.Values.{carried}
use Rattle.field_mask.proofs.PresentSteps.{PresentOf, present_among}
use Rattle.field_mask.proofs.shares.present_sums.Given as goal

abbrev pub invariant-loop-row : goal.invariant-loop-row
invariant-loop-row l = PresentOf (carried l.values l.first) (present_among l.fill l.values l.first (take l.row-index l.rows)) l.present.part l.present.sum
