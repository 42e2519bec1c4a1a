-- What one more plane leaves of a ring, by the sides of the ring's corners on it.
use Rattle.std.specs.Prelude.{◌≡◌, ℕ, suc, ◌-◌, ◌<◌, ◌≤◌, ℤ, pos, ◌≤ℤ◌, ◌<ℤ◌, List, length, slice_index_or}
use Rattle.vec_exact.specs.declared.Vec3.{Vec3}
use Rattle.vec_exact.specs.Vector.{inner}
use Rattle.vec_exact.specs.Cycle.{shifted, corner, vector_at}
use Rattle.cover_cells.specs.declared.cells.CellPlane.{CellPlane}
use Rattle.cover_cells.specs.declared.sides.Left.{Left}
use Rattle.cover_cells.specs.declared.sides.Left.TheVariants.{Whole, Nothing, Run}

-- the number at place t
abbrev pub side_at : List ℤ → ℕ → ℤ
side_at sides t = slice_index_or sides t (pos 0)

-- the numbers are the inner products of x and the corners of the planes, in order
pub record AreSides (planes : List Vec3) (x : Vec3) (sides : List ℤ) : Type 0 where
  pub len : length sides ≡ length planes
  pub each : (t : ℕ) → t < length planes → side_at sides t ≡ inner x (corner (length planes) (vector_at planes) t)

-- the corners of the planes, in order
pub record AreCorners (planes corners : List Vec3) : Type 0 where
  pub len : length corners ≡ length planes
  pub each : (t : ℕ) → t < length planes → vector_at corners t ≡ corner (length planes) (vector_at planes) t

-- the plane x is positive on none of these triples
abbrev pub NonePositive : Vec3 → List Vec3 → Type 0
NonePositive x triples = (t : ℕ) → t < length triples → inner x (vector_at triples t) ≤ℤ pos 0

-- from place first on, count numbers are positive, cyclically; the next one and the one before the first are not, and some number is negative
pub record IsRun (sides : List ℤ) (first count : ℕ) : Type 0 where
  pub within : first < length sides
  pub some : 0 < count
  pub room : count < length sides
  pub positive : (t : ℕ) → t < count → pos 0 <ℤ side_at sides (shifted (length sides) first t)
  pub stop : side_at sides (shifted (length sides) first count) ≤ℤ pos 0
  pub last : side_at sides (shifted (length sides) first (length sides - 1)) ≤ℤ pos 0
  pub negative : (s : ℕ) × s < length sides × side_at sides s <ℤ pos 0

-- how the numbers decide what is left
abbrev pub IsLeft : List ℤ → Left → Type 0
IsLeft sides Whole = (t : ℕ) → t < length sides → pos 0 ≤ℤ side_at sides t
IsLeft sides Nothing = (t : ℕ) → t < length sides → side_at sides t ≤ℤ pos 0
IsLeft sides (Run first count) = IsRun sides first count

-- new is old from place first on, up to count places later, and then p
pub record IsRunOf (old new : List CellPlane) (first count : ℕ) (p : CellPlane) : Type 0 where
  pub len : length new ≡ suc (suc count)
  pub same : (t : ℕ) (e : CellPlane) → t ≤ count → slice_index_or new t e ≡ slice_index_or old (shifted (length old) first t) e
  pub new_plane : (e : CellPlane) → slice_index_or new (suc count) e ≡ p
