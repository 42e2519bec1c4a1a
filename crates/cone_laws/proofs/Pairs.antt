-- The planes of two faces, and what their ring bounds.
use Rattle.std.proofs.Common.{◌≡◌, ℕ, zero, suc, ◌+◌, ◌-◌, ◌<◌, ◌≤◌, pos, ◌<ℤ◌, arith, ap, sym, ◌∙◌, ◌⊎◌, inl, inr, subst, List, length, slice_index, map, ◌↔◌, length-append}
use Rattle.std.proofs.lemmas.List.{get_or_append_left, get_or-append_right, get_or-map, length-map}
use Rattle.std.proofs.lemmas.List.FromFn.{get_or-map-range_with_len, length-map-range_with_len}
use Rattle.vec_exact.specs.declared.Vec3.{Vec3}
use Rattle.vec_exact.specs.Vector.{zero_triple, inner}
use Rattle.vec_exact.specs.Cycle.{Convex, vector_at, face_plane}
use Rattle.vec_exact.proofs.Cycles.{below_same_above}
use Rattle.vec_exact.proofs.Accepted.{accepted_convex, edge_nonzero}
use Rattle.cone_laws.specs.Cone.{AllPositive}
use Rattle.cone_laws.specs.Inside.{IsInside, Meets}
use Rattle.cone_laws.specs.Ring.{face_planes, planes_of_pair, plane, listed, IsCycle, IsRing}
use Rattle.cone_laws.specs.Laws.{RingBounds, RingPlanesAreConvex}
use Rattle.cone_laws.proofs.Inside.{center, center_inside}
use Rattle.cone_laws.proofs.Turned.{planes_of, same_convex}
use Rattle.cone_laws.proofs.Unique.{inside}

-- ---- the planes by number
pub length-face_planes : (f : List Vec3) → length (face_planes f) ≡ length f
unfolding face_planes
length-face_planes f = length-map-range_with_len (face_plane f) 0 (length f)

pub face_planes_at : (f : List Vec3) (t : ℕ) → t < length f → vector_at (face_planes f) t ≡ face_plane f t
unfolding face_planes
face_planes_at f t l = get_or-map-range_with_len (face_plane f) 0 (length f) t t zero_triple l (omega arith)

pub length-planes_of_pair : (f g : List Vec3) → length (planes_of_pair f g) ≡ length f + length g
unfolding planes_of_pair
length-planes_of_pair f g = omega (arith, length-append (face_planes f) (face_planes g), length-face_planes f, length-face_planes g)

pub first_plane : (f g : List Vec3) (t : ℕ) → t < length f → plane (planes_of_pair f g) (suc t) ≡ face_plane f t
unfolding planes_of_pair
first_plane f g t l =
    ap (λ (i : ℕ). vector_at (planes_of_pair f g) i) (omega arith)
    ∙ get_or_append_left (face_planes f) (face_planes g) zero_triple t (omega (arith, length-face_planes f))
    ∙ face_planes_at f t l

pub second_plane : (f g : List Vec3) (t : ℕ) → t < length g → plane (planes_of_pair f g) (suc (length f + t)) ≡ face_plane g t
unfolding planes_of_pair
second_plane f g t l =
    ap (λ (i : ℕ). vector_at (planes_of_pair f g) i) (omega arith)
    ∙ get_or-append_right (face_planes f) (face_planes g) (length f) (length f + t) zero_triple (length-face_planes f) (omega arith)
    ∙ ap (λ (i : ℕ). vector_at (face_planes g) i) (omega arith)
    ∙ face_planes_at g t l

-- every plane of the pair is an edge of one of the faces
pub which_plane : (f g : List Vec3) (i : ℕ) → 1 ≤ i → i ≤ length (planes_of_pair f g)
    → ((t : ℕ) × (t < length f) × (plane (planes_of_pair f g) i ≡ face_plane f t)) ⊎ ((t : ℕ) × (t < length g) × (plane (planes_of_pair f g) i ≡ face_plane g t))
which_plane f g zero l r = absurd (omega arith)
which_plane f g (suc i) l r =
    let len = length-planes_of_pair f g in
    elim (below_same_above i (length f)) [
      | inl lt ↦ inl (i, lt, first_plane f g i lt)
      | inr o ↦ inr (i - length f, omega (arith, o, len), ap (plane (planes_of_pair f g)) (omega (arith, o)) ∙ second_plane f g (i - length f) (omega (arith, o, len)))
    ]

-- ---- the planes as a set of directions
-- each of the first m planes is positive on d
abbrev pub AllNumbersPositive : (ℕ → Vec3) → ℕ → Vec3 → Type 0
AllNumbersPositive p m d = (i : ℕ) → 1 ≤ i → i ≤ m → pos 0 <ℤ inner (p i) d

-- none of the first m planes is zero
pub record AreNonzero (p : ℕ → Vec3) (m : ℕ) : Type 0 where
  pub nonzero : (i : ℕ) → 1 ≤ i → i ≤ m → pos 0 <ℤ inner (p i) (p i)

-- strictly inside the listed planes is strictly inside all of them
pub same_inside : (p : ℕ → Vec3) (m k : ℕ) (g : ℕ → ℕ) (d : Vec3) → IsCycle p m k g → AreNonzero p m
    → (AllPositive k (planes_of p g) d) ↔ (AllNumbersPositive p m d)
same_inside p m k g d c z = (
  λ h i l r. inside p m k g d c h i l r (z.nonzero i l r),
  λ h s l. h (g s) (c.least_number s l) (c.greatest_number s l),
)

-- each of the first m planes has the sum of the corners on its positive side
pub has_inside : (p : ℕ → Vec3) (m k : ℕ) (g : ℕ → ℕ) → IsCycle p m k g → AreNonzero p m → (d : Vec3) × (AllNumbersPositive p m d)
has_inside p m k g c z =
    (center k (planes_of p g), (same_inside p m k g (center k (planes_of p g)) c z).0 (center_inside k (planes_of p g) c.convex))

pub all_inside : (f g : List Vec3) (d : Vec3) → (AllNumbersPositive (plane (planes_of_pair f g)) (length (planes_of_pair f g)) d) ↔ (IsInside f d × IsInside g d)
all_inside f g d = let len = length-planes_of_pair f g in (
  λ h. (
    λ t l. subst (λ (w : Vec3). pos 0 <ℤ inner w d) (first_plane f g t l) (h (suc t) (omega arith) (omega (arith, len))),
    λ t l. subst (λ (w : Vec3). pos 0 <ℤ inner w d) (second_plane f g t l) (h (suc (length f + t)) (omega arith) (omega (arith, len))),
  ),
  λ h i l r. elim (which_plane f g i l r) [
    | inl e ↦ subst (λ (w : Vec3). pos 0 <ℤ inner w d) (sym e.2) (h.0 e.0 e.1)
    | inr e ↦ subst (λ (w : Vec3). pos 0 <ℤ inner w d) (sym e.2) (h.1 e.0 e.1)
  ],
)

pub pair_nonzero : (f g : List Vec3) → Convex (length f) (vector_at f) → Convex (length g) (vector_at g) → AreNonzero (plane (planes_of_pair f g)) (length (planes_of_pair f g))
pair_nonzero f g a b = record {
  nonzero = λ i l r. elim (which_plane f g i l r) [
    | inl e ↦ subst (λ (w : Vec3). pos 0 <ℤ inner w w) (sym e.2) (edge_nonzero (length f) (vector_at f) a e.0 e.1)
    | inr e ↦ subst (λ (w : Vec3). pos 0 <ℤ inner w w) (sym e.2) (edge_nonzero (length g) (vector_at g) b e.0 e.1)
  ];
}

-- ---- the ring of two faces
-- its planes are positive on a direction exactly where both faces have it inside
pub ring_bounds : (f g : List Vec3) (l : List ℕ) → Convex (length f) (vector_at f) → Convex (length g) (vector_at g) → IsRing f g l
    → (d : Vec3) → (AllPositive (length l) (listed (planes_of_pair f g) l) d) ↔ (IsInside f d × IsInside g d)
ring_bounds f g l a b r d =
    let s = same_inside (plane (planes_of_pair f g)) (length (planes_of_pair f g)) (length l) (slice_index l) d r.cycle (pair_nonzero f g a b) in
    let t = all_inside f g d in
    (λ h. t.0 (s.0 h), λ h. s.1 (t.1 h))

pub law_ring_bounds_holds : RingBounds
law_ring_bounds_holds f g l a b r d = ring_bounds f g l (accepted_convex f a) (accepted_convex g b) r d

-- two faces that have a ring meet
pub ring_meets : (f g : List Vec3) (l : List ℕ) → Convex (length f) (vector_at f) → Convex (length g) (vector_at g) → IsRing f g l → Meets f g
ring_meets f g l a b r =
    let n = listed (planes_of_pair f g) l in
    let h = (ring_bounds f g l a b r (center (length l) n)).0 (center_inside (length l) n r.cycle.convex) in
    (center (length l) n, h.0, h.1)

pub ring_planes_convex : RingPlanesAreConvex
ring_planes_convex f g l r =
    let ps = planes_of_pair f g in
    let len : length (map (plane ps) l) ≡ length l = length-map l (plane ps) in
    subst (λ (k : ℕ). Convex k (vector_at (map (plane ps) l))) (sym len)
    (same_convex (length l) (listed ps l) (vector_at (map (plane ps) l)) (λ t lt. get_or-map (plane ps) l t 0 zero_triple lt) r.cycle.convex)
