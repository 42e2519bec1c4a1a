use Rattle.std.proofs.Common.{◌≡◌, ℕ, ◌<◌, length, slice_index_or, pos}
use Rattle.vec_exact.specs.Side.{sign_of}
use Rattle.clip.specs.Usable.{side_at}
use Rattle.clip.proofs.sides.sides_of.Given as goal

abbrev pub invariant-loop-t : goal.invariant-loop-t
invariant-loop-t l = record {
  len : length l.sides.items ≡ l.t;
  each : (u : ℕ) → u < l.t → sign_of (slice_index_or l.sides.items u (pos 0)) ≡ sign_of (side_at l.planes.items l.ring.items l.plane u);
}
