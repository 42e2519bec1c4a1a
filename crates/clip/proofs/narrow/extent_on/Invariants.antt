use Rattle.std.proofs.Common.{ℕ, ◌<◌, ◌≤ℤ◌, slice_index_or}
use Rattle.vec_exact.specs.Vector.{inner}
use Rattle.clip.specs.Narrow.{wide, narrow_zero}
use Rattle.clip.proofs.narrow.extent_on.Given as goal

abbrev pub invariant-loop-t : goal.invariant-loop-t
invariant-loop-t l = record {
  least : (u : ℕ) → u < l.t → l.least ≤ℤ inner (wide l.plane) (wide (slice_index_or l.nodes u narrow_zero));
  greatest : (u : ℕ) → u < l.t → inner (wide l.plane) (wide (slice_index_or l.nodes u narrow_zero)) ≤ℤ l.greatest;
}
