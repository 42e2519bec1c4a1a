-- Corners with their lengths.
use Rattle.std.specs.Prelude.{◌≡◌, ◌<◌, ◌^◌, ℤ, pos, unsigned_abs, List}
use Rattle.vec_exact.specs.Size.{Within}
use Rattle.vec_exact.specs.Face.{vector_of}
use Rattle.piece_measure.specs.Triangle.{whole_length}
use Rattle.piece_measure.specs.declared.triangle.Arm.{Arm}

-- the length of the arm is that of its triple, which is of a grid corner's size
pub record IsArm (a : Arm) : Type 0 where
  pub size : Within 268435456 a.place
  pub length : a.length ≡ pos (whole_length a.place)
  pub short : unsigned_abs a.length < 2 ^ 29

-- and its triple is that of these numbers
pub record IsArmOf (a : Arm) (corner : List ℤ) : Type 0 where
  pub arm : IsArm a
  pub place : a.place ≡ vector_of corner
