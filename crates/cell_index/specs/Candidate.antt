-- Candidates: two faces whose boxes share a cell on some panel. Source: our own.
use Rattle.std.specs.Prelude.{ℕ, ◌≤◌, ◌↔◌, ℤ, pos, ◌≤ℤ◌, ◌<ℤ◌, List, length, None, Some, Option}
use Rattle.std.specs.List.{Contains}
use Rattle.vec_exact.specs.declared.Vec3.{Vec3}
use Rattle.vec_exact.specs.declared.RawMesh.{RawMesh}
use Rattle.vec_exact.specs.declared.panels.Panel.{Panel}
use Rattle.vec_exact.specs.Face.{IsAcceptedFace}
use Rattle.cone_laws.specs.Inside.{Meets}
use Rattle.mesh_check.specs.Mesh.{corners_of}
use Rattle.cell_index.specs.declared.CellBox.{CellBox}
use Rattle.cell_index.specs.Box.{box_of}
use Rattle.cell_index.specs.Fineness.{fineness_of}

-- the ranges of two boxes meet in both coordinates
pub record RangesMeet (a b : CellBox) : Type 0 where
  pub u_left : a.u0 ≤ℤ b.u1
  pub u_right : b.u0 ≤ℤ a.u1
  pub v_left : a.v0 ≤ℤ b.v1
  pub v_right : b.v0 ≤ℤ a.v1

-- there are both boxes, and they share a cell
abbrev pub SharesCell : Option CellBox → Option CellBox → Type 0
SharesCell (Some a) (Some b) = RangesMeet a b
SharesCell (Some a) None = ⊥
SharesCell None b = ⊥

-- two faces have boxes that share a cell on some panel, at the fineness k
abbrev pub IsCandidate : List Vec3 → List Vec3 → ℤ → Type 0
IsCandidate f g k = (panel : Panel) × SharesCell (box_of f panel k) (box_of g panel k)

-- face i of the mesh a and face j of the mesh b, at the fineness of b
pub record AreCandidates (a : RawMesh) (i : ℕ) (b : RawMesh) (j : ℕ) : Type 0 where
  pub first : 1 ≤ j
  pub last : j ≤ length b.faces
  pub share : IsCandidate (corners_of a i) (corners_of b j) (fineness_of (length b.faces))

-- two faces that meet are candidates, at any fineness
abbrev pub LawMeetsIsCandidate : Type 0
LawMeetsIsCandidate = (f g : List Vec3) (k : ℤ) → IsAcceptedFace f → IsAcceptedFace g → pos 0 <ℤ k → Meets f g → IsCandidate f g k

-- the list has exactly the candidates of face i of the mesh a among the faces of the mesh b
abbrev pub HasCandidates : RawMesh → ℕ → RawMesh → List ℕ → Type 0
HasCandidates a i b found = (j : ℕ) → Contains found j ↔ AreCandidates a i b j

-- the list has every face of the mesh b that meets face i of the mesh a
abbrev pub HasMeeting : RawMesh → ℕ → RawMesh → List ℕ → Type 0
HasMeeting a i b found = (j : ℕ) → 1 ≤ j → j ≤ length b.faces → Meets (corners_of a i) (corners_of b j) → Contains found j
