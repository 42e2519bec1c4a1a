use Rattle.std.proofs.Common.{◌≡◌, ℕ, ◌<◌, pos, ◌≤ℤ◌, length, slice_index_or, false}
use Rattle.vec_exact.specs.Vector.{inner}
use Rattle.vec_exact.specs.Cycle.{vector_at, face_plane}
use Rattle.clip.specs.Outlines.{nodes_of}
use Rattle.clip.proofs.outlines.cuts_of.Given as goal

abbrev pub invariant-loop-t : goal.invariant-loop-t
invariant-loop-t l = record {
  len : length l.cuts.items ≡ l.t;
  none : (u : ℕ) → u < l.t → slice_index_or l.cuts.items u false ≡ false → (s : ℕ) → s < length (nodes_of l.f) → pos 0 ≤ℤ inner (face_plane (nodes_of l.g) u) (vector_at (nodes_of l.f) s);
}
