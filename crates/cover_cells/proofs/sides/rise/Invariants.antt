use Rattle.std.proofs.Common.{ℕ, ◌<◌, pos, ◌≤ℤ◌, length}
use Rattle.vec_exact.specs.Cycle.{after}
use Rattle.cover_cells.specs.Sides.{side_at}
use Rattle.cover_cells.proofs.sides.rise.Given as goal

abbrev pub invariant-loop-t : goal.invariant-loop-t
invariant-loop-t l = (u : ℕ) → u < l.t → side_at l.sides u ≤ℤ pos 0 → side_at l.sides (after (length l.sides) u) ≤ℤ pos 0
