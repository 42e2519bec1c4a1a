use Rattle.std.proofs.Common.{ℕ, ◌<◌, pos, ◌≤ℤ◌, length, slice_index_or}
use Rattle.vec_exact.specs.Cycle.{after}
use Rattle.clip.proofs.sides.rise.Given as goal

abbrev pub invariant-loop-t : goal.invariant-loop-t
invariant-loop-t l = (u : ℕ) → u < l.t → slice_index_or l.sides u (pos 0) ≤ℤ pos 0 → slice_index_or l.sides (after (length l.sides) u) (pos 0) ≤ℤ pos 0
