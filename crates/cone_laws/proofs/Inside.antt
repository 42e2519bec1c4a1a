-- What a plane that is negative on no corner is on the cone of a convex cycle.
use Rattle.std.proofs.Common.{◌≡◌, ℕ, zero, suc, ◌+◌, ◌<◌, ℤ, pos, negsuc, ◌-ℤ◌, ◌*ℤ◌, ◌≤ℤ◌, ◌<ℤ◌, arith, ap, sym, inl, inr, subst}
use Rattle.std.proofs.lemmas.Int.{ints}
use Rattle.std.proofs.Math.IntN.{*ℤ_comm}
use Rattle.vec_exact.specs.declared.Vec3.{Vec3}
use Rattle.vec_exact.specs.Vector.{inner, scaled}
use Rattle.vec_exact.specs.Cycle.{after, corner, Convex}
use Rattle.vec_exact.proofs.Whole.{times_sum, neg_times, one_times}
use Rattle.vec_exact.proofs.Signs.{nonneg_times, pos_times, nonneg_cancel, pos_factor}
use Rattle.vec_exact.proofs.Planes.{self_pos}
use Rattle.vec_exact.proofs.Identities.{inner_scaled, apart, inner_apart}
use Rattle.vec_exact.proofs.Cycles.{same_or_not, after_below, corner_nonneg, positive_corner}
use Rattle.cone_laws.specs.Cone.{NoneNegative, AllPositive, combination}
use Rattle.cone_laws.proofs.Combinations.{combination_nonneg, combination_nonpos, sum_pos}
use Rattle.cone_laws.proofs.Generated.{to_generated}

-- ---- an inner direction
-- the sum of the corners
abbrev pub center : ℕ → (ℕ → Vec3) → Vec3
center k n = combination (corner k n) (λ _. 1) k

pub center_inside : (k : ℕ) (n : ℕ → Vec3) → Convex k n → AllPositive k n (center k n)
center_inside k n c s l = sum_pos (n s) (corner k n) k (after k s) (after_below k s l) (λ t lt. corner_nonneg k n c s t l lt) (positive_corner n k s c l)

-- no plane of a convex cycle is zero
pub plane_nonzero : (k : ℕ) (n : ℕ → Vec3) → Convex k n → (s : ℕ) → s < k → pos 0 <ℤ inner (n s) (n s)
plane_nonzero k n c s l = self_pos (n s) (center k n) (center_inside k n c s l)

-- ---- far out in a direction
amount_above : (z : ℤ) → (b : ℕ) × (z ≤ℤ pos b)
amount_above (pos n) = (n, omega (arith, ints))
amount_above (negsuc n) = (0, omega (arith, ints))

-- a bound on the sides of x
pub far : (n : ℕ → Vec3) (x : Vec3) (k : ℕ) → (b : ℕ) × ((s : ℕ) → s < k → inner (n s) x ≤ℤ pos b)
far n x zero = (0, λ s l. absurd (omega arith))
far n x (suc k) =
    let r = far n x k in let a = amount_above (inner (n k) x) in (
      r.0 + a.0,
      λ s l. elim (same_or_not s k) [
        | inl e ↦ subst (λ (i : ℕ). inner (n i) x ≤ℤ pos (r.0 + a.0)) (sym e) (omega (arith, ints, a.1))
        | inr ne ↦ omega (arith, ints, r.1 s (omega arith))
      ],
    )

pub step_up : (b : ℕ) (u v : ℤ) → pos 0 <ℤ u → v ≤ℤ pos b → pos 0 ≤ℤ (pos b *ℤ u -ℤ v)
step_up b u v p q = omega (arith, ints, nonneg_times (pos b) (u -ℤ pos 1) (omega (arith, ints)) (omega (arith, ints)), times_less (pos b) u)
  where
    times_less : (b u : ℤ) → b *ℤ (u -ℤ pos 1) ≡ b *ℤ u -ℤ b
    times_less b u = omega (arith, ints, times_sum b u (negsuc 0), *ℤ_comm b (negsuc 0), neg_times (pos 1) b, one_times b)

-- ---- the cone
-- what is negative on no corner is negative nowhere in the cone
pub cone_nonneg : (k : ℕ) (n : ℕ → Vec3) (y d : Vec3) → Convex k n → ((t : ℕ) → t < k → pos 0 ≤ℤ inner y (corner k n t)) → NoneNegative k n d → pos 0 ≤ℤ inner y d
cone_nonneg k n y d c h o =
    let q = to_generated k n d c o in
    nonneg_cancel (pos q.0) (inner y d) (omega (arith, ints, q.2))
    (omega (arith, ints, inner_scaled (pos q.0) y d, ap (inner y) q.3, combination_nonneg y (corner k n) q.1 k h))

-- and where it is not zero, it is positive inside the cone
pub cone_pos : (k : ℕ) (n : ℕ → Vec3) (y d : Vec3) → Convex k n → ((t : ℕ) → t < k → pos 0 ≤ℤ inner y (corner k n t)) → pos 0 <ℤ inner y y → AllPositive k n d → pos 0 <ℤ inner y d
cone_pos k n y d c h z i =
    let b = far n y k in
    let f = cone_nonneg k n y (apart (scaled (pos b.0) d) y) c h
    (λ s ls. omega (arith, ints, inner_apart (pos b.0) (n s) d y, step_up b.0 (inner (n s) d) (inner (n s) y) (i s ls) (b.1 s ls))) in
    pos_factor (pos b.0) (inner y d) (omega (arith, ints)) (omega (arith, ints, inner_apart (pos b.0) y d y, f))

-- what is positive on no corner is positive nowhere in the cone
pub none_beyond : (k : ℕ) (n : ℕ → Vec3) (x d : Vec3) → Convex k n → ((t : ℕ) → t < k → inner x (corner k n t) ≤ℤ pos 0) → NoneNegative k n d → ¬ (pos 0 <ℤ inner x d)
none_beyond k n x d c h o l =
    let g = to_generated k n d c o in
    omega (arith, ints, inner_scaled (pos g.0) x d, ap (inner x) g.3, combination_nonpos x (corner k n) g.1 k h, pos_times (pos g.0) (inner x d) (omega (arith, ints, g.2)) l)
