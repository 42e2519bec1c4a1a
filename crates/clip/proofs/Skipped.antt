-- A plane that is negative on no node of the first face changes nothing in any later ring.
use Rattle.std.proofs.Common.{ℕ, suc, ◌<◌, ◌≤◌, pos, ◌≤ℤ◌, List, length, slice_index, arith, subst}
use Rattle.vec_exact.specs.declared.Vec3.{Vec3}
use Rattle.vec_exact.specs.Vector.{inner}
use Rattle.vec_exact.specs.Cycle.{corner, vector_at, face_plane}
use Rattle.vec_exact.proofs.Accepted.{accepted_convex}
use Rattle.cone_laws.specs.Cone.{NoneNegative}
use Rattle.cone_laws.specs.Ring.{plane, listed, IsRingOfFirst}
use Rattle.cone_laws.proofs.LinearForms.{nonneg_in_closure}
use Rattle.cone_laws.proofs.Turned.{kept}
use Rattle.clip.specs.Planes.{AreEdgesOf}
use Rattle.clip.proofs.Started.{edge_at}

-- each corner of a ring of the face's planes and more is in the closure of the face
pub in_closure : (ps : List Vec3) (k m : ℕ) (f : List Vec3) (l : List ℕ) → AreEdgesOf f ps k → k ≤ m → IsRingOfFirst ps m l
    → (t : ℕ) → t < length l → NoneNegative (length f) (face_plane f) (corner (length l) (listed ps l) t)
in_closure ps k m f l a h r t lt s ls =
    subst (λ (p : Vec3). pos 0 ≤ℤ inner p (corner (length l) (listed ps l) t)) (edge_at f ps k a s ls)
    (r.cycle.covered (suc s) t (omega arith) (omega (arith, a.size, h, ls)) lt)

-- so a plane that no node of the face is on the negative side of is negative on no corner
pub skipped_ring : (ps : List Vec3) (k m : ℕ) (f : List Vec3) (l : List ℕ) → AreEdgesOf f ps k → k ≤ m → IsRingOfFirst ps m l
    → ((s : ℕ) → s < length f → pos 0 ≤ℤ inner (plane ps (suc m)) (vector_at f s)) → IsRingOfFirst ps (suc m) l
skipped_ring ps k m f l a h r none = record {
  cycle = kept (plane ps) m (length l) (slice_index l) r.cycle
      (λ t lt. nonneg_in_closure (length f) (vector_at f) (plane ps (suc m)) (corner (length l) (listed ps l) t) (accepted_convex f a.accepted) none (in_closure ps k m f l a h r t lt));
  least_first = r.least_first;
}
