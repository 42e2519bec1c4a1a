-- Where a plane meets the planes of a cycle.
use Rattle.std.proofs.Common.{◌≡◌, ℕ, ◌<◌, ℤ, pos, neg_ℤ, ◌+ℤ◌, ◌*ℤ◌, ◌≤ℤ◌, ◌<ℤ◌, arith, ap, refl, sym, ◌∙◌, [], ◌∷◌}
use Rattle.std.proofs.lemmas.Int.{ints}
use Rattle.vec_exact.specs.declared.Vec3.{Vec3}
use Rattle.vec_exact.specs.Vector.{zero_triple, inner, cross, det, scaled, added}
use Rattle.vec_exact.specs.Cycle.{after, corner, Convex}
use Rattle.vec_exact.proofs.Ring.{mul, minus, ring}
use Rattle.vec_exact.proofs.Signs.{nonneg_times, pos_times, nonneg_cancel, pos_cancel, zero_cancel}
use Rattle.vec_exact.proofs.Terms.{vec_eq, inner_t, cross_t, det_t, scaled_t, added_t, v, look}
use Rattle.vec_exact.proofs.Identities.{inner_scaled, inner_combined, zero_times_both}
use Rattle.vec_exact.proofs.Cycles.{turn}

-- ---- equations of three planes in order and one more; the corners are a x b and b x c
-- two neighbouring corners span the plane between them
pub between : (a b c d : Vec3) → det d (cross a b) (cross b c) ≡ inner c (cross a b) *ℤ inner b d
between a b c d = ring (det_t (v 3) (cross_t (v 0) (v 1)) (cross_t (v 1) (v 2))) (mul (inner_t (v 2) (cross_t (v 0) (v 1))) (inner_t (v 1) (v 3)))
    (look (a ∷ b ∷ c ∷ d ∷ [])) refl

-- plane n meets the plane b between the two corners, which leave its positive side
meets_after : (a b c n : Vec3) → scaled (inner c (cross a b)) (cross b n) ≡ added (scaled (inner n (cross a b)) (cross b c)) (scaled (neg_ℤ (inner n (cross b c))) (cross a b))
meets_after a b c n =
    let A = v 0 in let B = v 1 in let C = v 2 in let N = v 3 in
    let l = scaled_t (inner_t C (cross_t A B)) (cross_t B N) in
    let r = added_t (scaled_t (inner_t N (cross_t A B)) (cross_t B C)) (scaled_t (minus (inner_t N (cross_t B C))) (cross_t A B)) in
    let e = look (a ∷ b ∷ c ∷ n ∷ []) in
    vec_eq _ _ (ring l.x r.x e refl) (ring l.y r.y e refl) (ring l.z r.z e refl)

-- the same where they come to its positive side
meets_before : (a b c n : Vec3) → scaled (inner c (cross a b)) (cross n b) ≡ added (scaled (inner n (cross b c)) (cross a b)) (scaled (neg_ℤ (inner n (cross a b))) (cross b c))
meets_before a b c n =
    let A = v 0 in let B = v 1 in let C = v 2 in let N = v 3 in
    let l = scaled_t (inner_t C (cross_t A B)) (cross_t N B) in
    let r = added_t (scaled_t (inner_t N (cross_t B C)) (cross_t A B)) (scaled_t (minus (inner_t N (cross_t A B))) (cross_t B C)) in
    let e = look (a ∷ b ∷ c ∷ n ∷ []) in
    vec_eq _ _ (ring l.x r.x e refl) (ring l.y r.y e refl) (ring l.z r.z e refl)

-- what a plane q that is zero on both corners has as its cross product with b
on_both : (a b c q : Vec3) → scaled (inner c (cross a b)) (cross q b) ≡ added (scaled (inner q (cross b c)) (cross a b)) (scaled (neg_ℤ (inner q (cross a b))) (cross b c))
on_both a b c q = meets_before a b c q

-- ---- a plane that is zero on two neighbouring corners is parallel to the plane between them
along : (a b c q : Vec3) → pos 0 <ℤ inner c (cross a b) → inner q (cross a b) ≡ pos 0 → inner q (cross b c) ≡ pos 0 → cross q b ≡ zero_triple
along a b c q h e f =
    let w : scaled (inner c (cross a b)) (cross q b) ≡ zero_triple =
    on_both a b c q
    ∙ ap (λ (z : ℤ). added (scaled z (cross a b)) (scaled (neg_ℤ (inner q (cross a b))) (cross b c))) f
    ∙ ap (λ (z : ℤ). added (scaled (pos 0) (cross a b)) (scaled (neg_ℤ z) (cross b c))) e
    ∙ zero_times_both (cross a b) (cross b c) in
    vec_eq _ _ (zero_cancel (inner c (cross a b)) (cross q b).x h (ap (λ (z : Vec3). z.x) w))
    (zero_cancel (inner c (cross a b)) (cross q b).y h (ap (λ (z : Vec3). z.y) w))
    (zero_cancel (inner c (cross a b)) (cross q b).z h (ap (λ (z : Vec3). z.z) w))

pub along_cycle : (k : ℕ) (n : ℕ → Vec3) (r : ℕ) (q : Vec3) → Convex k n → r < k → inner q (corner k n r) ≡ pos 0 → inner q (corner k n (after k r)) ≡ pos 0 → cross q (n (after k r)) ≡ zero_triple
unfolding corner
along_cycle k n r q c l e f = along (n r) (n (after k r)) (n (after k (after k r))) q (turn k n r c l) e f

-- ---- the side of a meeting
-- a positive multiple of z is `a * u + b * w`
pub record Between (z a u b w : ℤ) : Type 0 where
  pub factor : ℤ
  pub positive : pos 0 <ℤ factor
  pub equal : factor *ℤ z ≡ a *ℤ u +ℤ b *ℤ w

-- the side on q of the meeting of x with the plane after corner t, where the corners leave the positive side of x
pub leave : (k : ℕ) (n : ℕ → Vec3) (x q : Vec3) (t : ℕ) → Convex k n → t < k
    → Between (inner q (cross (n (after k t)) x)) (inner x (corner k n t)) (inner q (corner k n (after k t))) (neg_ℤ (inner x (corner k n (after k t)))) (inner q (corner k n t))
unfolding corner
leave k n x q t c l = record {
  factor = inner (n (after k (after k t))) (corner k n t);
  positive = turn k n t c l;
  equal =
      sym (inner_scaled (inner (n (after k (after k t))) (cross (n t) (n (after k t)))) q (cross (n (after k t)) x))
      ∙ ap (inner q) (meets_after (n t) (n (after k t)) (n (after k (after k t))) x)
      ∙ inner_combined q (cross (n (after k t)) (n (after k (after k t)))) (cross (n t) (n (after k t))) (inner x (cross (n t) (n (after k t)))) (neg_ℤ (inner x (cross (n (after k t)) (n (after k (after k t))))));
}

-- the same where they come to it
pub enter : (k : ℕ) (n : ℕ → Vec3) (x q : Vec3) (t : ℕ) → Convex k n → t < k
    → Between (inner q (cross x (n (after k t)))) (inner x (corner k n (after k t))) (inner q (corner k n t)) (neg_ℤ (inner x (corner k n t))) (inner q (corner k n (after k t)))
unfolding corner
enter k n x q t c l = record {
  factor = inner (n (after k (after k t))) (corner k n t);
  positive = turn k n t c l;
  equal =
      sym (inner_scaled (inner (n (after k (after k t))) (cross (n t) (n (after k t)))) q (cross x (n (after k t))))
      ∙ ap (inner q) (meets_before (n t) (n (after k t)) (n (after k (after k t))) x)
      ∙ inner_combined q (cross (n t) (n (after k t))) (cross (n (after k t)) (n (after k (after k t)))) (inner x (cross (n (after k t)) (n (after k (after k t))))) (neg_ℤ (inner x (cross (n t) (n (after k t)))));
}

pub first_pos : {z a u b w : ℤ} → Between z a u b w → pos 0 <ℤ a → pos 0 <ℤ u → pos 0 ≤ℤ b → pos 0 ≤ℤ w → pos 0 <ℤ z
first_pos {z} {a} {u} {b} {w} m pa pu pb pw = pos_cancel m.factor z m.positive (omega (arith, ints, m.equal, pos_times a u pa pu, nonneg_times b w pb pw))

pub second_pos : {z a u b w : ℤ} → Between z a u b w → pos 0 ≤ℤ a → pos 0 ≤ℤ u → pos 0 <ℤ b → pos 0 <ℤ w → pos 0 <ℤ z
second_pos {z} {a} {u} {b} {w} m pa pu pb pw = pos_cancel m.factor z m.positive (omega (arith, ints, m.equal, nonneg_times a u pa pu, pos_times b w pb pw))

pub neither_neg : {z a u b w : ℤ} → Between z a u b w → pos 0 ≤ℤ a → pos 0 ≤ℤ u → pos 0 ≤ℤ b → pos 0 ≤ℤ w → pos 0 ≤ℤ z
neither_neg {z} {a} {u} {b} {w} m pa pu pb pw = nonneg_cancel m.factor z m.positive (omega (arith, ints, m.equal, nonneg_times a u pa pu, nonneg_times b w pb pw))
