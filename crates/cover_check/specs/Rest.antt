-- What the faces of a mesh leave of a target face, which is given by its nodes. Source: our own.
use Rattle.std.specs.Prelude.{◌≡◌, ℕ, ◌<◌, ◌≤◌, ◌↔◌, List, [], length, All, IsTrue, slice_index}
use Rattle.vec_exact.specs.declared.RawMesh.{RawMesh}
use Rattle.vec_exact.specs.declared.Vec3.{Vec3}
use Rattle.cone_laws.specs.Inside.{IsInside}
use Rattle.mesh_check.specs.Mesh.{corners_of}
use Rattle.cover_cells.specs.declared.cells.CellPlane.{CellPlane}
use Rattle.cover_cells.specs.Cells.{IsCell, is_in_cell, cells_with, IsBeyondAnEdge, IsOffEdges}
use Rattle.cover_cells.specs.Coverage.{IsCovered, IsUncoveredDirection}

-- some direction is in the cell
abbrev pub IsFilled : RawMesh → List Vec3 → List CellPlane → Type 0
IsFilled sources target cell = (d : Vec3) × IsTrue (is_in_cell sources target d cell)

-- d is on no edge plane of the target, and on none of any face of the mesh
pub record IsOffAllEdges (sources : RawMesh) (target : List Vec3) (d : Vec3) : Type 0 where
  pub off_target : IsOffEdges target d
  pub off_sources : (i : ℕ) → 1 ≤ i → i ≤ length sources.faces → IsOffEdges (corners_of sources i) d

-- the cells are those of the target less the faces with these numbers
pub record IsLess (sources : RawMesh) (target : List Vec3) (faces : List ℕ) (cells : List (List CellPlane)) : Type 0 where
  pub each : All (IsCell sources target) cells
  -- a direction in a cell is inside the target and beyond an edge of each of the faces
  pub beyond : (d : Vec3) → 0 < cells_with sources target d cells
      → IsInside target d × ((k : ℕ) → k < length faces → IsBeyondAnEdge (corners_of sources (slice_index faces k)) d)
  -- and one inside the target that is inside none of the faces, and on none of their edge planes, is in one cell
  pub one : (d : Vec3) → IsInside target d
      → ((k : ℕ) → k < length faces → IsOffEdges (corners_of sources (slice_index faces k)) d × ¬ IsInside (corners_of sources (slice_index faces k)) d)
      → cells_with sources target d cells ≡ 1

-- the cells are what all faces of the mesh leave of the target
pub record IsRest (sources : RawMesh) (target : List Vec3) (cells : List (List CellPlane)) : Type 0 where
  pub each : All (IsCell sources target) cells
  pub filled : All (IsFilled sources target) cells
  pub uncovered : (d : Vec3) → 0 < cells_with sources target d cells → IsUncoveredDirection sources target d
  pub one : (d : Vec3) → IsOffAllEdges sources target d → IsUncoveredDirection sources target d → cells_with sources target d cells ≡ 1
  pub empty : (cells ≡ []) ↔ IsCovered sources target
