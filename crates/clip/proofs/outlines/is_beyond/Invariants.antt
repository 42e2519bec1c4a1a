use Rattle.std.proofs.Common.{ℕ, ◌<◌, pos, ◌≤ℤ◌, slice_index_or}
use Rattle.vec_exact.specs.Vector.{inner}
use Rattle.clip.specs.Narrow.{wide, narrow_zero}
use Rattle.clip.proofs.outlines.is_beyond.Given as goal

abbrev pub invariant-loop-s : goal.invariant-loop-s
invariant-loop-s l = (u : ℕ) → u < l.s → inner (wide l.plane) (wide (slice_index_or l.nodes u narrow_zero)) ≤ℤ pos 0
