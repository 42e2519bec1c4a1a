-- Parts of a target, each with the source faces that may still meet it. Source: our own.
use Rattle.std.specs.Prelude.{◌≡◌, ◌⊎◌, ℕ, ◌+◌, ◌<◌, ◌≤◌, List, length, map, All, Contains, IsTrue, slice_index}
use Rattle.vec_exact.specs.declared.RawMesh.{RawMesh}
use Rattle.vec_exact.specs.declared.Vec3.{Vec3}
use Rattle.cone_laws.specs.Inside.{IsInside}
use Rattle.mesh_check.specs.Mesh.{corners_of}
use Rattle.cover_cells.specs.declared.cells.CellPlane.{CellPlane}
use Rattle.cover_cells.specs.Cells.{IsCell, IsSource, IsBeyondAnEdge, IsOffEdges, is_in_cell, cells_with}
use Rattle.cover_check.specs.declared.parts.Part.{Part}

-- a cell, and the numbers of the source faces that may still meet it
pub record PartView : Type 0 where
  pub cell : List CellPlane
  pub faces : List ℕ

abbrev pub view_of : Part → PartView
view_of p = record { cell = p.cell; faces = p.faces.items }

-- the cells, each with these faces
abbrev pub with_faces : List ℕ → List (List CellPlane) → List PartView
with_faces faces cells = map (λ c. record { cell = c; faces = faces }) cells

-- how many of the parts have d
abbrev pub parts_with : RawMesh → List Vec3 → Vec3 → List PartView → ℕ
parts_with sources target d parts = cells_with sources target d (map (λ p. p.cell) parts)

-- a ring with faces that are there, and with at most n of them, but at least one
pub record IsSoundPart (sources : RawMesh) (target : List Vec3) (n : ℕ) (p : PartView) : Type 0 where
  pub ring : IsCell sources target p.cell
  pub named : All (IsSource sources) p.faces
  pub some : 1 ≤ length p.faces
  pub few : length p.faces ≤ n

-- each direction in the cell is inside the target
abbrev pub IsWithin : RawMesh → List Vec3 → List CellPlane → Type 0
IsWithin sources target cell = (d : Vec3) → IsTrue (is_in_cell sources target d cell) → IsInside target d

-- a part of the target less all faces of `all` but those that the part still has
pub record IsPartOf (sources : RawMesh) (target : List Vec3) (all : List ℕ) (p : PartView) : Type 0 where
  pub ring : IsCell sources target p.cell
  pub within : IsWithin sources target p.cell
  pub among : All (Contains all) p.faces
  pub beyond : (d : Vec3) → IsTrue (is_in_cell sources target d p.cell) → (k : ℕ) → k < length all
      → Contains p.faces (slice_index all k) ⊎ IsBeyondAnEdge (corners_of sources (slice_index all k)) d

-- a cell of the target less all faces of `all`
pub record IsCellOf (sources : RawMesh) (target : List Vec3) (all : List ℕ) (cell : List CellPlane) : Type 0 where
  pub ring : IsCell sources target cell
  pub within : IsWithin sources target cell
  pub beyond : (d : Vec3) → IsTrue (is_in_cell sources target d cell) → (k : ℕ) → k < length all
      → IsBeyondAnEdge (corners_of sources (slice_index all k)) d

-- the target is divided into parts and cells, as far as no face of `all` has it and off all their edge planes
pub record IsDivided (sources : RawMesh) (target : List Vec3) (all : List ℕ) (parts : List PartView) (cells : List (List CellPlane)) : Type 0 where
  pub each_part : All (IsPartOf sources target all) parts
  pub each_cell : All (IsCellOf sources target all) cells
  pub one : (d : Vec3) → IsInside target d
      → ((k : ℕ) → k < length all → IsOffEdges (corners_of sources (slice_index all k)) d × ¬ IsInside (corners_of sources (slice_index all k)) d)
      → parts_with sources target d parts + cells_with sources target d cells ≡ 1
