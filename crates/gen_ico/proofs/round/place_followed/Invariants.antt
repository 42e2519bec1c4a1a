use Rattle.std.proofs.Common.{◌≡◌, ◌<◌, ℕ, false}
use Rattle.gen_ico.specs.Dual.{has_at}
use Rattle.gen_ico.proofs.round.place_followed.Given as goal

abbrev pub invariant-loop-s : goal.invariant-loop-s
invariant-loop-s l = (k : ℕ) → k < l.s → has_at l.p l.h l.face k ≡ false
