-- The planes of two accepted faces, and their ring.
use Rattle.std.proofs.Common.{◌≡◌, ℕ, ◌+◌, pos, ◌<ℤ◌, List, [], ◌∷◌, ◌++◌, length, take, map, ap, sym, ◌∙◌, subst, arith, inl, inr, ◌↔◌, append_assoc}
use Rattle.std.proofs.lemmas.Int.{ints}
use Rattle.std.specs.List.{range_with_len}
use Rattle.std.proofs.lemmas.List.FromFn.{map-range_with_len_more, length-map-range_with_len}
use Rattle.std.proofs.Math.Seq.{take-append_seam}
use Rattle.vec_exact.specs.declared.Vec3.{Vec3}
use Rattle.vec_exact.specs.Vector.{zero_triple, inner}
use Rattle.vec_exact.specs.Size.{Is37}
use Rattle.vec_exact.specs.Cycle.{face_plane}
use Rattle.vec_exact.specs.Face.{IsAcceptedFace}
use Rattle.vec_exact.proofs.Accepted.{accepted_convex, face_plane_is37}
use Rattle.cone_laws.specs.Inside.{Meets}
use Rattle.cone_laws.specs.Ring.{face_planes, planes_of_pair, plane}
use Rattle.cone_laws.proofs.Pairs.{length-face_planes, which_plane, all_inside, pair_nonzero}
use Rattle.clip.specs.Planes.{HasInside, EachIs37, NoneIsZero, AreEdgesOf}

-- the first n edge planes of a face
abbrev pub first_edges : List Vec3 → ℕ → List Vec3
first_edges f n = map (face_plane f) (range_with_len 0 n)

pub one_more_edge : (ps f : List Vec3) (t : ℕ) (n : Vec3) → n ≡ face_plane f t → (ps ++ first_edges f t) ++ n ∷ [] ≡ ps ++ first_edges f (t + 1)
one_more_edge ps f t n e =
    append_assoc ps (first_edges f t) (n ∷ [])
    ∙ ap (λ (qs : List Vec3). ps ++ qs) (ap (λ (w : Vec3). first_edges f t ++ w ∷ []) e ∙ sym (map-range_with_len_more (face_plane f) 0 t t (omega arith)))

pub length-first_edges : (f : List Vec3) (n : ℕ) → length (first_edges f n) ≡ n
length-first_edges f n = length-map-range_with_len (face_plane f) 0 n

pub all_edges : (f : List Vec3) (n : ℕ) → n ≡ length f → first_edges f n ≡ face_planes f
unfolding face_planes
all_edges f n e = ap (first_edges f) e

pub both_faces : (f g : List Vec3) → face_planes f ++ face_planes g ≡ planes_of_pair f g
unfolding planes_of_pair
both_faces f g = λ i. planes_of_pair f g

pub first_of_pair : (f g : List Vec3) → IsAcceptedFace f → AreEdgesOf f (planes_of_pair f g) (length f)
unfolding planes_of_pair
first_of_pair f g a = record {
  accepted = a;
  size = λ i. length f;
  planes = ap (λ (n : ℕ). take n (face_planes f ++ face_planes g)) (sym (length-face_planes f)) ∙ take-append_seam (face_planes f) (face_planes g);
}

pub pair_is37 : (f g : List Vec3) → IsAcceptedFace f → IsAcceptedFace g → EachIs37 (planes_of_pair f g) (length (planes_of_pair f g))
pair_is37 f g a b i l r =
    elim (which_plane f g i l r) [
      | inl e ↦ subst Is37 (sym e.2) (face_plane_is37 f a e.0 e.1)
      | inr e ↦ subst Is37 (sym e.2) (face_plane_is37 g b e.0 e.1)
    ]

zero_square : (v : Vec3) → v ≡ zero_triple → pos 0 <ℤ inner v v → ⊥
zero_square v e h = omega (arith, ints, subst (λ (w : Vec3). pos 0 <ℤ inner w w) e h)

pub pair_none_zero : (f g : List Vec3) → IsAcceptedFace f → IsAcceptedFace g → NoneIsZero (planes_of_pair f g) (length (planes_of_pair f g))
pair_none_zero f g a b i l r e = zero_square (plane (planes_of_pair f g) i) e ((pair_nonzero f g (accepted_convex f a) (accepted_convex g b)).nonzero i l r)

-- the planes have a direction in common exactly where the faces meet
pub pair_inside : (f g : List Vec3) → (HasInside (planes_of_pair f g) (length (planes_of_pair f g))) ↔ (Meets f g)
pair_inside f g = (
  λ h. let w = (all_inside f g h.0).0 h.1 in (h.0, w.0, w.1),
  λ m. (m.0, (all_inside f g m.0).1 (m.1, m.2)),
)
