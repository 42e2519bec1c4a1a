use Rattle.std.proofs.Common.{◌≡◌, ◌<◌, ℕ, pos, false, slice_index_or}
use Rattle.std.specs.Ordering.{int_eq}
use Rattle.gen_ico.proofs.round.place_of.Given as goal

abbrev pub invariant-loop-s : goal.invariant-loop-s
invariant-loop-s l = (k : ℕ) → k < l.s → int_eq (slice_index_or l.face k (pos 0)) l.p ≡ false
