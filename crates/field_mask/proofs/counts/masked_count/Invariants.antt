use Rattle.std.proofs.Common.{◌≡◌, take}
use Rattle.field_mask.specs.Masked.{masked_count_of}
use Rattle.field_mask.proofs.counts.masked_count.Given as goal

abbrev pub invariant-loop-part : goal.invariant-loop-part
invariant-loop-part l = l.count ≡ masked_count_of (take l.part-index l.part-items)
