use Rattle.std.proofs.Common.{ℕ, ◌<◌, ◌≤◌, length, get_or}
use Rattle.clip.proofs.rings.least_place.Given as goal

abbrev pub invariant-loop-t : goal.invariant-loop-t
invariant-loop-t l = record { below : l.least < length l.numbers; least : (u : ℕ) → u < l.t → get_or l.numbers l.least 0 ≤ get_or l.numbers u 0 }
