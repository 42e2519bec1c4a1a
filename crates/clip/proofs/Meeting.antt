-- The corners where planes of two faces meet.
use Rattle.std.proofs.Common.{◌≡◌, ◌^◌, unsigned_abs, to_z, of_z, FitsSigned, ℕ, zero, suc, ◌+◌, ◌-◌, ◌<◌, ◌≤◌, ℤ, pos, negsuc, neg_ℤ, ◌-ℤ◌, ◌*ℤ◌, ◌<ℤ◌, List, [], ◌∷◌, length, refl, arith, ap, sym, ◌∙◌}
use Rattle.std.proofs.lemmas.Int.{ints}
use mir.Syntax.{w128}
use Rattle.vec_exact.specs.declared.Vec3.{Vec3}
use Rattle.vec_exact.specs.declared.vectors.Sign.{Sign}
use Rattle.vec_exact.specs.declared.vectors.Sign.TheVariants.{Neg, Pos}
use Rattle.vec_exact.specs.Vector.{inner, cross, det}
use Rattle.vec_exact.specs.Side.{sign_of}
use Rattle.vec_exact.specs.Cycle.{after, corner, vector_at, face_plane}
use Rattle.vec_exact.specs.Face.{IsAcceptedFace}
use Rattle.vec_exact.proofs.Ring.{mul, ring, minus}
use Rattle.vec_exact.proofs.Terms.{less, inner_t, cross_t, v, look}
use Rattle.vec_exact.proofs.Signs.{pos_times, pos_times_neg}
use Rattle.vec_exact.proofs.Accepted.{accepted_convex}
use Rattle.cone_laws.specs.Ring.{plane, planes_of_pair}
use Rattle.cone_laws.proofs.Pairs.{first_plane, second_plane}
use Rattle.cone_laws.proofs.FaceEdges.{face_side, face_turn}

-- ---- signs
sign_pos : (z : ℤ) → pos 0 <ℤ z → sign_of z ≡ Pos
sign_pos (pos zero) h = absurd (omega (arith, ints))
sign_pos (pos (suc n)) h = refl
sign_pos (negsuc n) h = absurd (omega (arith, ints))

sign_neg : (z : ℤ) → z <ℤ pos 0 → sign_of z ≡ Neg
sign_neg (pos n) h = absurd (omega (arith, ints))
sign_neg (negsuc n) h = refl

-- a positive factor leaves the sign
pub sign_times : (k z : ℤ) → pos 0 <ℤ k → sign_of (k *ℤ z) ≡ sign_of z
sign_times k (pos zero) p = ap sign_of (times_zero k)
  where
    times_zero : (k : ℤ) → k *ℤ pos 0 ≡ pos 0
    times_zero k = omega (arith, ints)
sign_times k (pos (suc n)) p = sign_pos (k *ℤ pos (suc n)) (pos_times k (pos (suc n)) p (omega (arith, ints)))
sign_times k (negsuc n) p = sign_neg (k *ℤ negsuc n) (pos_times_neg k (negsuc n) p (omega (arith, ints)))

-- ---- two edges of one face that follow each other
pub adjacent : (f : List Vec3) (t s : ℕ) (w : Vec3) (z : ℤ) → IsAcceptedFace f → t < length f → after (length f) t ≡ s → z ≡ inner w (vector_at f s)
    → sign_of z ≡ sign_of (inner w (cross (face_plane f t) (face_plane f s)))
unfolding corner
adjacent f t s w z a lt e q =
    let k = length f in
    let v = vector_at f in
    let d = det (v t) (v (after k t)) (v (after k (after k t))) in
    ap sign_of (q ∙ ap (λ (i : ℕ). inner w (v i)) (sym e))
    ∙ sym (sign_times d (inner w (v (after k t))) (face_turn k v (accepted_convex f a) t lt))
    ∙ ap sign_of (sym (face_side k v w t))
    ∙ ap (λ (i : ℕ). sign_of (inner w (cross (face_plane f t) (face_plane f i)))) e

-- ---- an edge and another plane
pub crossing : (w q a b : Vec3) → inner w (cross (cross a b) q) ≡ inner q a *ℤ inner w b -ℤ inner q b *ℤ inner w a
crossing w q a b =
    ring (inner_t (v 0) (cross_t (cross_t (v 2) (v 3)) (v 1))) (less (mul (inner_t (v 1) (v 2)) (inner_t (v 0) (v 3))) (mul (inner_t (v 1) (v 3)) (inner_t (v 0) (v 2))))
    (look (w ∷ q ∷ a ∷ b ∷ [])) refl

pub crossed_back : (w p q : Vec3) → inner w (cross q p) ≡ neg_ℤ (inner w (cross p q))
crossed_back w p q = ring (inner_t (v 0) (cross_t (v 2) (v 1))) (minus (inner_t (v 0) (cross_t (v 1) (v 2)))) (look (w ∷ p ∷ q ∷ [])) refl

-- what the code computes
pub sub_read : (r s : ℤ) → unsigned_abs r < 2 ^ 114 → unsigned_abs s < 2 ^ 114 → to_z w128 (of_z w128 (to_z w128 (of_z w128 r) -ℤ to_z w128 (of_z w128 s))) ≡ r -ℤ s
sub_read r s p q = omega (arith, ints)

pub sub_fits : (r s : ℤ) → unsigned_abs r < 2 ^ 114 → unsigned_abs s < 2 ^ 114 → FitsSigned w128 (to_z w128 (of_z w128 r) -ℤ to_z w128 (of_z w128 s))
sub_fits r s p q = omega (arith, ints)

pub sub_size : (r s : ℤ) → unsigned_abs r < 2 ^ 114 → unsigned_abs s < 2 ^ 114 → unsigned_abs (to_z w128 (of_z w128 (to_z w128 (of_z w128 r) -ℤ to_z w128 (of_z w128 s)))) < 2 ^ 115
sub_size r s p q = omega (arith, ints, sub_read r s p q)

pub neg_read : (r : ℤ) → unsigned_abs r < 2 ^ 115 → to_z w128 (of_z w128 (pos 0 -ℤ to_z w128 (of_z w128 r))) ≡ neg_ℤ r
neg_read r p = omega (arith, ints)

pub crossing_value : (f : List Vec3) (t j : ℕ) (w q a b : Vec3) (p r s1 s2 s3 s4 : ℤ) → p ≡ s1 *ℤ s2 → r ≡ s3 *ℤ s4 → s1 ≡ inner q a → s2 ≡ inner w b → s3 ≡ inner q b → s4 ≡ inner w a
    → a ≡ vector_at f t → b ≡ vector_at f j → j ≡ after (length f) t → p -ℤ r ≡ inner w (cross (face_plane f t) q)
crossing_value f t j w q a b p r s1 s2 s3 s4 hp hr h1 h2 h3 h4 ha hb hj =
    ap (λ (z : ℤ). z -ℤ r) (hp ∙ ap (λ (z : ℤ). z *ℤ s2) h1 ∙ ap (λ (z : ℤ). inner q a *ℤ z) h2)
    ∙ ap (λ (z : ℤ). inner q a *ℤ inner w b -ℤ z) (hr ∙ ap (λ (z : ℤ). z *ℤ s4) h3 ∙ ap (λ (z : ℤ). inner q b *ℤ z) h4)
    ∙ sym (crossing w q a b)
    ∙ ap (λ (v : Vec3). inner w (cross (cross v b) q)) ha
    ∙ ap (λ (v : Vec3). inner w (cross (cross (vector_at f t) v) q)) (hb ∙ ap (vector_at f) hj)

-- ---- planes by number
pub first_at : (f g : List Vec3) (i : ℕ) → 1 ≤ i → i ≤ length f → plane (planes_of_pair f g) i ≡ face_plane f (i - 1)
first_at f g i a b = let e : i ≡ suc (i - 1) = omega arith in ap (plane (planes_of_pair f g)) e ∙ first_plane f g (i - 1) (omega arith)

pub second_at : (f g : List Vec3) (i : ℕ) → length f < i → i ≤ length f + length g → plane (planes_of_pair f g) i ≡ face_plane g (i - length f - 1)
second_at f g i a b = let e : i ≡ suc (length f + (i - length f - 1)) = omega arith in ap (plane (planes_of_pair f g)) e ∙ second_plane f g (i - length f - 1) (omega arith)

pub at_planes : (ps : List Vec3) (i j : ℕ) (w p q : Vec3) (s : Sign) → plane ps i ≡ p → plane ps j ≡ q → s ≡ sign_of (inner w (cross p q)) → s ≡ sign_of (inner w (cross (plane ps i) (plane ps j)))
at_planes ps i j w p q s a b e = e ∙ ap (λ (v : Vec3). sign_of (inner w (cross v q))) (sym a) ∙ ap (λ (v : Vec3). sign_of (inner w (cross (plane ps i) v))) (sym b)
