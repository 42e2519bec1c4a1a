-- An index as contracts see it: a fineness and the boxes of all target faces. Source: our own.
use Rattle.std.specs.Prelude.{◌≡◌, ◌↔◌, ℕ, ◌-◌, ◌<◌, ◌≤◌, ℤ, None, List, [], length, slice_index_or, Option}
use Rattle.std.specs.List.{Contains}
use Rattle.vec_exact.specs.declared.RawMesh.{RawMesh}
use Rattle.mesh_check.specs.Mesh.{corners_of}
use Rattle.cell_index.specs.declared.CellBox.{CellBox}
use Rattle.cell_index.specs.declared.Boxes.{Boxes}
use Rattle.cell_index.specs.Box.{boxes}
use Rattle.cell_index.specs.Candidate.{SharesCell, AreCandidates}
use Rattle.cell_index.specs.Fineness.{fineness_of}

pub record IndexView : Type 0 where
  pub fineness : ℤ
  pub boxes : List Boxes

-- the boxes of target face j, which counts from 1
abbrev pub panels : List Boxes → ℕ → List (Option CellBox)
panels bs j = (slice_index_or bs (j - 1) (record { panel = [] })).panel

-- the fineness and the boxes are those of the mesh
pub record IsIndexOf (index : IndexView) (mesh : RawMesh) : Type 0 where
  pub fineness : index.fineness ≡ fineness_of (length mesh.faces)
  pub count : length index.boxes ≡ length mesh.faces
  pub boxes_are : (j : ℕ) → 1 ≤ j → j ≤ length mesh.faces → panels index.boxes j ≡ boxes (corners_of mesh j) index.fineness

-- the boxes of the first t faces of the mesh
pub record AreFirstBoxes (mesh : RawMesh) (k : ℤ) (t : ℕ) (bs : List Boxes) : Type 0 where
  pub count : length bs ≡ t
  pub boxes_are : (j : ℕ) → 1 ≤ j → j ≤ t → panels bs j ≡ boxes (corners_of mesh j) k

-- the box at place p of a list of boxes
abbrev pub at_panel : List (Option CellBox) → ℕ → Option CellBox
at_panel own p = slice_index_or own p None

-- two lists of boxes share a cell on some panel
abbrev pub Share : List (Option CellBox) → List (Option CellBox) → Type 0
Share a b = (p : ℕ) × (p < 6) × SharesCell (at_panel a p) (at_panel b p)

-- target face j shares a cell with a face that has these boxes
pub record IsSharer (own : List (Option CellBox)) (bs : List Boxes) (j : ℕ) : Type 0 where
  pub first : 1 ≤ j
  pub last : j ≤ length bs
  pub shares : Share own (panels bs j)

-- the list has exactly those that share a cell with a face that has these boxes
abbrev pub HasSharers : List (Option CellBox) → List Boxes → List ℕ → Type 0
HasSharers own bs found = (j : ℕ) → Contains found j ↔ IsSharer own bs j

-- in the index of a mesh, those that share a cell with a face's boxes are its candidates
abbrev pub LawSharersAreCandidates : Type 0
LawSharersAreCandidates = (index : IndexView) (b a : RawMesh) (i j : ℕ) → IsIndexOf index b
    → IsSharer (boxes (corners_of a i) index.fineness) index.boxes j ↔ AreCandidates a i b j
