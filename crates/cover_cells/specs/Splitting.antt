-- How a cell is split by one plane after another. Source: our own.
use Rattle.std.specs.Prelude.{◌≡◌, ℕ, ◌+◌, ◌<◌, pos, int_lt, Bool, false, ◌&&◌, if◌then◌else◌, List, [], ◌∷◌, length, slice_index_or}
use Rattle.vec_exact.specs.declared.RawMesh.{RawMesh}
use Rattle.vec_exact.specs.declared.Vec3.{Vec3}
use Rattle.vec_exact.specs.Vector.{inner}
use Rattle.cover_cells.specs.declared.cells.CellPlane.{CellPlane}
use Rattle.cover_cells.specs.Cells.{plane_of, IsCell, is_positive, is_in_cell}

-- some plane is negative on d, and all before it are positive
abbrev pub leaves : Vec3 → List Vec3 → Bool
leaves d [] = false
leaves d (n ∷ ns) = if is_positive d n then leaves d ns else int_lt (inner n d) (pos 0)

-- the number if the test holds, else 0
abbrev pub number_if : Bool → ℕ → ℕ
number_if test n = if test then n else 0

-- part has the directions of cell on which p is positive
pub record IsHalf (sources : RawMesh) (target : List Vec3) (cell : List CellPlane) (p : CellPlane) (part : List CellPlane) : Type 0 where
  pub is_cell : IsCell sources target part
  pub same : (d : Vec3) → is_in_cell sources target d part ≡ (is_positive d (plane_of sources target p) && is_in_cell sources target d cell)

-- p is positive on no direction of cell
abbrev pub HasNoHalf : RawMesh → List Vec3 → List CellPlane → CellPlane → Type 0
HasNoHalf sources target cell p = (d : Vec3) → (is_positive d (plane_of sources target p) && is_in_cell sources target d cell) ≡ false

-- the edges of a target of n edges, in order
pub record AreTargetEdges (n : ℕ) (cell : List CellPlane) : Type 0 where
  pub len : length cell ≡ n
  pub each : (t : ℕ) (e : CellPlane) → t < n → slice_index_or cell t e ≡ record { source = 0; edge = t + 1; neg = false }
