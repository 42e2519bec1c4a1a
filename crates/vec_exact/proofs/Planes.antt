-- Planes that are not zero, and planes of one direction.
use Rattle.std.proofs.Common.{◌≢◌, pos, negsuc, ◌≤ℤ◌, ◌<ℤ◌, arith, ap, ◌∙◌, inl, inr}
use Rattle.std.proofs.lemmas.Int.{ints}
use Rattle.std.proofs.Math.IntN.{*ℤ_comm}
use Rattle.vec_exact.specs.declared.Vec3.{Vec3}
use Rattle.vec_exact.specs.Vector.{zero_triple, inner, cross, scaled}
use Rattle.vec_exact.specs.Side.{SameDirection}
use Rattle.vec_exact.proofs.Signs.{by_strict_sign, square_nonneg, square_zero, pos_times, pos_factor}
use Rattle.vec_exact.proofs.Terms.{vec_eq}
use Rattle.vec_exact.proofs.Identities.{inner_turned, cross_swapped, lagrange}

pub self_nonneg : (a : Vec3) → pos 0 ≤ℤ inner a a
self_nonneg a = omega (arith, ints, square_nonneg a.x, square_nonneg a.y, square_nonneg a.z)

-- a plane on which something is positive is not zero
pub self_pos : (a b : Vec3) → pos 0 <ℤ inner a b → pos 0 <ℤ inner a a
self_pos a b h =
    pos_factor (inner b b) (inner a a) (self_nonneg b)
    (omega (arith, ints, *ℤ_comm (inner a a) (inner b b), lagrange a b, pos_times (inner a b) (inner a b) h h, self_nonneg (cross a b)))

pub nonzero_self : (a : Vec3) → a ≢ zero_triple → pos 0 <ℤ inner a a
nonzero_self a h =
    elim (by_strict_sign (inner a a)) [
      | inl p ↦ p
      | inr q ↦ absurd (h (vec_eq a zero_triple
          (square_zero a.x (omega (arith, ints, q, square_nonneg a.x, square_nonneg a.y, square_nonneg a.z)))
          (square_zero a.y (omega (arith, ints, q, square_nonneg a.x, square_nonneg a.y, square_nonneg a.z)))
          (square_zero a.z (omega (arith, ints, q, square_nonneg a.x, square_nonneg a.y, square_nonneg a.z)))))
    ]

pub same_direction_turned : (a b : Vec3) → SameDirection a b → SameDirection b a
same_direction_turned a b s = record {
  along = cross_swapped a b ∙ ap (scaled (negsuc 0)) s.along;
  forward = omega (arith, ints, s.forward, inner_turned a b);
}
