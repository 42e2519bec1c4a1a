-- Cells: what is left of a target face, as rings of edge planes that may be turned round. The target is given by its nodes.
-- Source: our own.
use Rattle.std.specs.Prelude.{◌≢◌, ℕ, ◌-◌, ◌<◌, ◌≤◌, pos, negsuc, ◌<ℤ◌, int_lt, nat_eq, Bool, if◌then◌else◌, List, length, map, All, count_by, IsTrue}
use Rattle.std.specs.List.{list_all}
use Rattle.vec_exact.specs.declared.RawMesh.{RawMesh}
use Rattle.vec_exact.specs.declared.Vec3.{Vec3}
use Rattle.vec_exact.specs.Vector.{inner, scaled}
use Rattle.vec_exact.specs.Cycle.{Convex, vector_at, face_plane}
use Rattle.mesh_check.specs.Mesh.{corners_of}
use Rattle.cover_cells.specs.declared.cells.CellPlane.{CellPlane}

-- the face of whose edges p has one: the target for source 0, else a face of the source mesh
abbrev pub own_face : RawMesh → List Vec3 → CellPlane → List Vec3
own_face sources target p = if nat_eq p.source 0 then target else corners_of sources p.source

-- the plane that p stands for
abbrev pub plane_of : RawMesh → List Vec3 → CellPlane → Vec3
plane_of sources target p = let n = face_plane (own_face sources target p) (p.edge - 1) in if p.neg then scaled (negsuc 0) n else n

-- the planes of a cell
abbrev pub planes_of : RawMesh → List Vec3 → List CellPlane → List Vec3
planes_of sources target cell = map (plane_of sources target) cell

-- the face and the edge that p names are there
pub record IsNamed (sources : RawMesh) (target : List Vec3) (p : CellPlane) : Type 0 where
  pub source : p.source ≤ length sources.faces
  pub least_edge : 1 ≤ p.edge
  pub greatest_edge : p.edge ≤ length (own_face sources target p)

-- a cell is a ring: the cross product of each of its planes and the next is positive on all of its planes but these two
abbrev pub IsCellRing : RawMesh → List Vec3 → List CellPlane → Type 0
IsCellRing sources target cell = let planes = planes_of sources target cell in Convex (length planes) (vector_at planes)

-- i is the number of a face of the source mesh
abbrev pub IsSource : RawMesh → ℕ → Type 0
IsSource sources i = (1 ≤ i) × (i ≤ length sources.faces)

-- a ring of planes that are there
pub record IsCell (sources : RawMesh) (target : List Vec3) (cell : List CellPlane) : Type 0 where
  pub ring : IsCellRing sources target cell
  pub named : All (IsNamed sources target) cell

-- the plane n is positive on d
abbrev pub is_positive : Vec3 → Vec3 → Bool
is_positive d n = int_lt (pos 0) (inner n d)

-- the direction d is in the cell: all of its planes are positive on it
abbrev pub is_in_cell : RawMesh → List Vec3 → Vec3 → List CellPlane → Bool
is_in_cell sources target d cell = list_all (is_positive d) (planes_of sources target cell)

-- how many of the cells have d
abbrev pub cells_with : RawMesh → List Vec3 → Vec3 → List (List CellPlane) → ℕ
cells_with sources target d cells = count_by (is_in_cell sources target d) cells

-- an edge plane of the face is negative on d
abbrev pub IsBeyondAnEdge : List Vec3 → Vec3 → Type 0
IsBeyondAnEdge face d = (t : ℕ) × t < length face × inner (face_plane face t) d <ℤ pos 0

-- each direction in the cell is beyond an edge of source face i
abbrev pub IsAway : RawMesh → List Vec3 → List CellPlane → ℕ → Type 0
IsAway sources target cell i = (d : Vec3) → IsTrue (is_in_cell sources target d cell) → IsBeyondAnEdge (corners_of sources i) d

-- no edge plane of the face is zero on d
abbrev pub IsOffEdges : List Vec3 → Vec3 → Type 0
IsOffEdges face d = (t : ℕ) → t < length face → inner (face_plane face t) d ≢ pos 0
