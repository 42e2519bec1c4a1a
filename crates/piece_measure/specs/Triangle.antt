-- The measure of a triangle: a fixed-point form of the solid angle of three triples, in units of 2^-36.
-- Source: van Oosterom and Strackee (1983), "The solid angle of a plane triangle", for the tangent of half a solid angle. The fixed-point form, its
-- roundings and its number of terms are our own.
use Rattle.std.specs.Prelude.{ℕ, ◌+◌, ◌-◌, ◌*◌, ◌/◌, min, ℤ, pos, ◌+ℤ◌, ◌*ℤ◌, unsigned_abs, List}
use Rattle.std.specs.Int.{int_max}
use Rattle.vec_exact.specs.declared.Vec3.{Vec3}
use Rattle.vec_exact.specs.Vector.{inner, det}
use Rattle.vec_exact.specs.Face.{vector_of}
use Rattle.vec_exact.specs.Root.{root_of}

-- one in fixed point, 2^36
abbrev pub unit : ℕ
unit = 68719476736

-- the length of a, rounded down
unfoldable pub whole_length : Vec3 → ℕ
whole_length a = root_of (unsigned_abs (inner a a))

-- the fraction that is the tangent of half the solid angle: its numerator, 0 where the triples turn the other way
unfoldable pub numerator : Vec3 → Vec3 → Vec3 → ℕ
numerator a b c = unsigned_abs (int_max (det a b c) (pos 0))

-- its denominator, raised to 1 where it is less
unfoldable pub denominator : Vec3 → Vec3 → Vec3 → ℕ
denominator a b c =
    let la = whole_length a in
    let lb = whole_length b in
    let lc = whole_length c in
    unsigned_abs (int_max (pos (la * lb * lc) +ℤ inner a b *ℤ pos lc +ℤ inner b c *ℤ pos la +ℤ inner c a *ℤ pos lb) (pos 1))

-- the tangent of half the solid angle in fixed point, at most 4
unfoldable pub half_tangent : Vec3 → Vec3 → Vec3 → ℕ
half_tangent a b c = min (4 * unit) (numerator a b c * unit / denominator a b c)

-- the tangent of half the angle whose tangent is t
unfoldable pub halved : ℕ → ℕ
halved t = t * unit / (unit + root_of (unit * unit + t * t))

-- the two later terms of the series s - s^3/3 + s^5/5 of the arctangent
abbrev pub third : ℕ → ℕ
third s = s * s * s / (3 * (unit * unit))

abbrev pub fifth : ℕ → ℕ
fifth s =
    let s2 = s * s / unit in
    let s4 = s2 * s2 / unit in
    s4 * s / unit / 5

-- the angle whose tangent is s, by these terms; where s is at most 1, the second term is at most the first
unfoldable pub angle : ℕ → ℕ
angle s = s - third s + fifth s

-- sixteen times the angle of a sixteenth, which three halvings of the half give
unfoldable pub triangle_measure : List ℤ → List ℤ → List ℤ → ℕ
triangle_measure a b c = 16 * angle (halved (halved (halved (half_tangent (vector_of a) (vector_of b) (vector_of c)))))
