use Rattle.std.proofs.Common.{ℕ, ◌<◌, pos, ◌<ℤ◌, length}
use Rattle.vec_exact.specs.Cycle.{shifted}
use Rattle.cover_cells.specs.Sides.{side_at}
use Rattle.cover_cells.proofs.sides.positive_run.Given as goal

abbrev pub invariant-loop-t : goal.invariant-loop-t
invariant-loop-t l = (u : ℕ) → u < l.t → pos 0 <ℤ side_at l.sides (shifted (length l.sides) l.first u)
