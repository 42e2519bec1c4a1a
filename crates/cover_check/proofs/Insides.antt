-- Directions inside a face, or not.
use Rattle.std.proofs.Common.{◌≡◌, ℕ, zero, suc, ◌<◌, ℤ, pos, ◌≤ℤ◌, ◌<ℤ◌, List, length, arith, sym, ◌⊎◌, inl, inr, subst}
use Rattle.std.proofs.lemmas.Int.{ints}
use Rattle.vec_exact.specs.declared.Vec3.{Vec3}
use Rattle.vec_exact.specs.Vector.{inner}
use Rattle.vec_exact.specs.Cycle.{face_plane}
use Rattle.vec_exact.proofs.Signs.{by_strict_sign}
use Rattle.vec_exact.proofs.Cycles.{same_or_not}
use Rattle.cone_laws.specs.Inside.{IsInside}

-- ---- inside a face or not
first_planes : (face : List Vec3) (d : Vec3) (k : ℕ) → ((t : ℕ) → t < k → pos 0 <ℤ inner (face_plane face t) d) ⊎ ((t : ℕ) × (t < k) × (inner (face_plane face t) d ≤ℤ pos 0))
first_planes face d zero = inl (λ t l. absurd (omega arith))
first_planes face d (suc k) =
    elim (by_strict_sign (inner (face_plane face k) d)) [
      | inr n ↦ inr (k, omega arith, n)
      | inl p ↦ elim (first_planes face d k) [
        | inr o ↦ inr (o.0, omega (arith, o.1), o.2)
        | inl all ↦ inl (λ t l. elim (same_or_not t k) [
          | inl e ↦ subst (λ (s : ℕ). pos 0 <ℤ inner (face_plane face s) d) (sym e) p
          | inr ne ↦ all t (omega arith)
        ])
      ]
    ]

not_both : {z : ℤ} → pos 0 <ℤ z → z ≤ℤ pos 0 → ⊥
not_both {z} a b = omega (arith, ints)

pub inside_or_not : (face : List Vec3) (d : Vec3) → IsInside face d ⊎ ¬ IsInside face d
inside_or_not face d =
    elim (first_planes face d (length face)) [
      | inl i ↦ inl i
      | inr o ↦ inr (λ i. not_both (i o.0 o.1) o.2)
    ]

-- ---- the target itself
pub some_inside : (P : Type 0) (n : ℕ) → P ⊎ ¬ P → (¬ P → n ≡ 0) → 0 < n → P
some_inside P n (inl p) z l = p
some_inside P n (inr o) z l = absurd (omega (arith, z o, l))
