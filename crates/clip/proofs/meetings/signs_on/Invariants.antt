use Rattle.std.proofs.Common.{◌≡◌, ℕ, ◌<◌, length, slice_index_or, pos}
use Rattle.vec_exact.specs.Side.{sign_of}
use Rattle.cone_laws.specs.Ring.{planes_of_pair}
use Rattle.clip.specs.Usable.{side_at}
use Rattle.clip.specs.Narrow.{wide}
use Rattle.clip.specs.Outlines.{nodes_of}
use Rattle.clip.proofs.meetings.signs_on.Given as goal

abbrev pub invariant-loop-t : goal.invariant-loop-t
invariant-loop-t l = record {
  len : length l.sides.items ≡ l.t;
  each : (u : ℕ) → u < l.t → sign_of (slice_index_or l.sides.items u (pos 0)) ≡ sign_of (side_at (planes_of_pair (nodes_of l.f) (nodes_of l.g)) l.ring.items (wide l.w) u);
}
