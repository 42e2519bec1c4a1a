-- The ring of the first planes of a list, where they are the edges of an accepted face.
use Rattle.std.proofs.Common.{◌≡◌, ℕ, zero, suc, ◌+◌, ◌<◌, ◌≤◌, ap, sym, ◌∙◌, subst, arith, List, [], ◌∷◌, ◌++◌, length, slice_index, length-take}
use Rattle.std.specs.List.{range_with_len}
use Rattle.std.proofs.lemmas.List.{get_or-take}
use Rattle.std.proofs.lemmas.List.FromFn.{length-range_with_len, get_or-range_with_len}
use Rattle.vec_exact.specs.declared.Vec3.{Vec3}
use Rattle.vec_exact.specs.Vector.{zero_triple}
use Rattle.vec_exact.specs.Cycle.{vector_at, face_plane}
use Rattle.vec_exact.proofs.Accepted.{accepted_convex}
use Rattle.cone_laws.specs.Ring.{plane, IsCycle, IsRingOfFirst}
use Rattle.cone_laws.proofs.Turned.{same_cycle}
use Rattle.cone_laws.proofs.FaceEdges.{face_cycle}
use Rattle.cone_laws.proofs.Pairs.{face_planes_at, length-face_planes}
use Rattle.clip.specs.Planes.{AreEdgesOf}

-- one number more
more_numbers : (a n : ℕ) → range_with_len a n ++ (a + n) ∷ [] ≡ range_with_len a (suc n)
more_numbers a zero = ap (λ (i : ℕ). i ∷ []) (omega arith)
more_numbers a (suc n) = ap (λ (l : List ℕ). a ∷ l) (ap (λ (i : ℕ). range_with_len (a + 1) n ++ i ∷ []) (omega arith) ∙ more_numbers (a + 1) n)

pub one_more_number : (i : ℕ) → range_with_len 1 i ++ (i + 1) ∷ [] ≡ range_with_len 1 (i + 1)
one_more_number i = let e : suc i ≡ i + 1 = omega arith in subst (λ (j : ℕ). range_with_len 1 i ++ (i + 1) ∷ [] ≡ range_with_len 1 j) e (ap (λ (j : ℕ). range_with_len 1 i ++ j ∷ []) (omega arith) ∙ more_numbers 1 i)

-- the planes by number
pub edge_at : (f ps : List Vec3) (m : ℕ) → AreEdgesOf f ps m → (t : ℕ) → t < length f → plane ps (suc t) ≡ face_plane f t
edge_at f ps m a t l =
    ap (vector_at ps) (omega arith)
    ∙ sym (get_or-take m ps t zero_triple (omega (arith, a.size)))
    ∙ ap (λ (qs : List Vec3). vector_at qs t) a.planes
    ∙ face_planes_at f t l

-- the numbers from 1 to m
numbers_cycle : (ps : List Vec3) (m : ℕ) (f : List Vec3) → AreEdgesOf f ps m → (l : List ℕ) → l ≡ range_with_len 1 m → IsCycle (plane ps) m (length l) (slice_index l)
numbers_cycle ps m f a l e =
    let len : length f ≡ length l = omega (arith, a.size, ap (length {A = ℕ}) e, length-range_with_len 1 m) in
    let c : IsCycle (plane ps) (length f) (length f) suc = face_cycle (length f) (vector_at f) (plane ps) (accepted_convex f a.accepted) (edge_at f ps m a) in
    subst (λ (i : ℕ). IsCycle (plane ps) i (length l) (slice_index l)) a.size
    (subst (λ (k : ℕ). IsCycle (plane ps) (length f) k (slice_index l)) len
    (same_cycle (plane ps) (length f) (length f) suc (slice_index l)
    (λ t lt. ap (λ (u : List ℕ). slice_index u t) e ∙ get_or-range_with_len 1 m t 0 (omega (arith, a.size)) ∙ omega arith) c))

pub start_ring : (ps : List Vec3) (m : ℕ) (f : List Vec3) → AreEdgesOf f ps m → (l : List ℕ) → l ≡ range_with_len 1 m → IsRingOfFirst ps m l
start_ring ps m f a l e = record {
  cycle = numbers_cycle ps m f a l e;
  least_first = λ t lt.
      let len : length l ≡ m = ap (length {A = ℕ}) e ∙ length-range_with_len 1 m in
      omega (
        arith,
        ap (λ (u : List ℕ). slice_index u 0) e,
        ap (λ (u : List ℕ). slice_index u t) e,
        get_or-range_with_len 1 m 0 0 (omega (arith, len)),
        get_or-range_with_len 1 m t 0 (omega (arith, len)),
      );
}

-- there are at least m planes
pub edges_fit : (ps : List Vec3) (m : ℕ) (f : List Vec3) → AreEdgesOf f ps m → m ≤ length ps
edges_fit ps m f a = omega (arith, a.size, ap (length {A = Vec3}) a.planes, length-face_planes f, length-take m ps)
