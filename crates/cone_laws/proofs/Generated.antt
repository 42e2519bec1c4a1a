-- The generation law: no plane of a convex cycle is negative on a direction exactly where the corners generate it.
use Rattle.std.proofs.Common.{◌≡◌, ℕ, zero, suc, ◌-◌, ◌<◌, ◌≤◌, ℤ, pos, ◌*ℤ◌, ◌≤ℤ◌, ◌<ℤ◌, arith, ap, inl, inr, subst, ◌↔◌}
use Rattle.std.proofs.lemmas.Int.{ints}
use Rattle.vec_exact.specs.declared.Vec3.{Vec3}
use Rattle.vec_exact.specs.Vector.{inner, det}
use Rattle.vec_exact.specs.Cycle.{after, corner, Convex}
use Rattle.vec_exact.proofs.Signs.{nonneg_times, pos_times, nonneg_cancel, by_sign}
use Rattle.vec_exact.proofs.Identities.{inner_scaled, cramer, det_turned, det_swapped_ends, det_swapped_last}
use Rattle.vec_exact.proofs.Cycles.{same_or_not, after_below, after_inner, after_last, corner_nonneg, turn}
use Rattle.cone_laws.specs.Cone.{NoneNegative, IsGenerated}
use Rattle.cone_laws.proofs.Combinations.{combination_nonneg, from_three}
use Rattle.cone_laws.proofs.Meetings.{between}

pub from_generated : (k : ℕ) (n : ℕ → Vec3) (d : Vec3) → Convex k n → IsGenerated k n d → NoneNegative k n d
from_generated k n d c g s l =
    nonneg_cancel (pos g.0) (inner (n s) d) (omega (arith, ints, g.2))
    (omega (
      arith,
      ints,
      inner_scaled (pos g.0) (n s) d,
      ap (inner (n s)) g.3,
      combination_nonneg (n s) (corner k n) g.1 k (λ t lt. corner_nonneg k n c s t l lt),
    ))

-- a sequence that begins at or above zero and ends at or below it changes somewhere
change : (f : ℕ → ℤ) (a b : ℕ) → a < b → pos 0 ≤ℤ f a → f b ≤ℤ pos 0 → (t : ℕ) × (a ≤ t) × (t < b) × (pos 0 ≤ℤ f t) × (f (suc t) ≤ℤ pos 0)
change f a zero l p q = absurd (omega arith)
change f a (suc b) l p q =
    elim (same_or_not a b) [
      | inl e ↦ (b, omega arith, omega arith, subst (λ (i : ℕ). pos 0 ≤ℤ f i) e p, q)
      | inr ne ↦ elim (by_sign (f b)) [
        | inl h ↦ (b, omega arith, omega arith, h, q)
        | inr h ↦ let r = change f a b (omega arith) p (omega (arith, ints)) in
            (r.0, r.1, omega (arith, r.2), r.3, r.4)
      ]
    ]

-- a corner, the next one and a direction, by the plane between the two corners
span : (k : ℕ) (n : ℕ → Vec3) (d : Vec3) (t : ℕ) → det d (corner k n t) (corner k n (after k t)) ≡ inner (n (after k (after k t))) (corner k n t) *ℤ inner (n (after k t)) d
unfolding corner
span k n d t = between (n t) (n (after k t)) (n (after k (after k t))) d

span_nonneg : (k : ℕ) (n : ℕ → Vec3) (d : Vec3) (t : ℕ) → Convex k n → NoneNegative k n d → t < k → pos 0 ≤ℤ det d (corner k n t) (corner k n (after k t))
span_nonneg k n d t c h l =
    omega (
      arith,
      ints,
      span k n d t,
      nonneg_times (inner (n (after k (after k t))) (corner k n t)) (inner (n (after k t)) d) (omega (arith, ints, turn k n t c l)) (h (after k t) (after_below k t l)),
    )

-- d lies in one of the triangles that corner 0 makes with two neighbouring corners, and Cramer's rule gives its factors
pub to_generated : (k : ℕ) (n : ℕ → Vec3) (d : Vec3) → Convex k n → NoneNegative k n d → IsGenerated k n d
to_generated k n d cv h =
    let c = corner k n in
    let f : ℕ → ℤ = λ t. det (c 0) (c t) d in
    let three : 3 ≤ k = cv.three in
    let one : after k 0 ≡ 1 = after_inner k 0 (omega arith) in
    let back : after k (k - 1) ≡ 0 = after_last k (k - 1) (omega arith) in
    let first : pos 0 ≤ℤ f 1 =
    omega (arith, ints, det_turned (c 0) (c 1) d, subst (λ (i : ℕ). pos 0 ≤ℤ det d (c 0) (c i)) one (span_nonneg k n d 0 cv h (omega arith))) in
    let last : f (k - 1) ≤ℤ pos 0 =
    omega (arith, ints, det_swapped_ends (c 0) (c (k - 1)) d, subst (λ (i : ℕ). pos 0 ≤ℤ det d (c (k - 1)) (c i)) back (span_nonneg k n d (k - 1) cv h (omega arith))) in
    let r = change f 1 (k - 1) (omega arith) first last in
    let t = r.0 in
    let ts : after k t ≡ suc t = after_inner k t (omega (arith, r.2)) in
    let m : pos 0 <ℤ det (c 0) (c t) (c (suc t)) =
    subst (λ (i : ℕ). pos 0 <ℤ det (c 0) (c t) (c i)) ts (omega (
      arith,
      ints,
      span k n (c 0) t,
      pos_times (inner (n (after k (after k t))) (c t)) (inner (n (after k t)) (c 0)) (turn k n t cv (omega (arith, r.2)))
          (cv.strict 0 (after k t) (omega arith) (after_below k t (omega (arith, r.2))) (omega (arith, ts)) (omega (arith, ts, one, r.1))),
    )) in
    let x : pos 0 ≤ℤ det d (c t) (c (suc t)) =
    subst (λ (i : ℕ). pos 0 ≤ℤ det d (c t) (c i)) ts (span_nonneg k n d t cv h (omega (arith, r.2))) in
    let y : pos 0 ≤ℤ det (c 0) d (c (suc t)) = omega (arith, ints, det_swapped_last (c 0) d (c (suc t)), r.4) in
    from_three k c d 0 t (suc t) (det (c 0) (c t) (c (suc t))) (det d (c t) (c (suc t))) (det (c 0) d (c (suc t))) (det (c 0) (c t) d)
    (omega arith) (omega (arith, r.2)) (omega (arith, r.2)) m x y r.3 (cramer (c 0) (c t) (c (suc t)) d)

pub generated : (k : ℕ) (n : ℕ → Vec3) → Convex k n → (d : Vec3) → (NoneNegative k n d) ↔ (IsGenerated k n d)
generated k n c d = (to_generated k n d c, from_generated k n d c)
