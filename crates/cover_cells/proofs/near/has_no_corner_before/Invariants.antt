use Rattle.std.proofs.Common.{ℕ, ◌<◌, pos, ◌≤ℤ◌}
use Rattle.vec_exact.specs.Vector.{inner}
use Rattle.vec_exact.specs.Cycle.{vector_at}
use Rattle.cover_cells.proofs.near.has_no_corner_before.Given as goal

abbrev pub invariant-loop-corner : goal.invariant-loop-corner
invariant-loop-corner l = (u : ℕ) → u < l.corner-index → inner l.plane (vector_at l.corners u) ≤ℤ pos 0
