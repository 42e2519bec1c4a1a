-- Sides of planes, and planes of one direction.
use Rattle.std.specs.Prelude.{◌≡◌, zero, suc, ℤ, pos, negsuc, ◌<ℤ◌}
use Rattle.vec_exact.specs.declared.vectors.Sign.{Sign}
use Rattle.vec_exact.specs.declared.vectors.Sign.TheVariants.{Neg, On, Pos}
use Rattle.vec_exact.specs.declared.Vec3.{Vec3}
use Rattle.vec_exact.specs.Vector.{zero_triple, inner, cross}

-- the sign of a number
abbrev pub sign_of : ℤ → Sign
sign_of (pos zero) = On
sign_of (pos (suc n)) = Pos
sign_of (negsuc n) = Neg

-- the side of the plane n on which the direction d lies
abbrev pub side_of : Vec3 → Vec3 → Sign
side_of n d = sign_of (inner n d)

-- two planes have the same direction
pub record SameDirection (m n : Vec3) : Type 0 where
  pub along : cross m n ≡ zero_triple
  pub forward : pos 0 <ℤ inner m n
