-- The candidates of a face as a list. Source: our own.
use Rattle.std.specs.Prelude.{◌↔◌, ℕ, ℤ, int_le, Bool, false, ◌&&◌, ◌||◌, List, length, None, Some, Option}
use Rattle.std.specs.List.{Contains, filter, range_with_len}
use Rattle.vec_exact.specs.declared.Vec3.{Vec3}
use Rattle.vec_exact.specs.declared.RawMesh.{RawMesh}
use Rattle.vec_exact.specs.declared.panels.Panel.{Panel}
use Rattle.vec_exact.specs.declared.panels.Panel.TheVariants.{PlusX, PlusY, MinusX, MinusY, PlusZ, MinusZ}
use Rattle.mesh_check.specs.Mesh.{corners_of}
use Rattle.cell_index.specs.declared.CellBox.{CellBox}
use Rattle.cell_index.specs.Box.{box_of}
use Rattle.cell_index.specs.Candidate.{AreCandidates}
use Rattle.cell_index.specs.Fineness.{fineness_of}

-- there are both boxes, and they share a cell: `SharesCell` as a test
abbrev pub do_share_cell : Option CellBox → Option CellBox → Bool
do_share_cell (Some a) (Some b) = int_le a.u0 b.u1 && int_le b.u0 a.u1 && int_le a.v0 b.v1 && int_le b.v0 a.v1
do_share_cell (Some a) None = false
do_share_cell None b = false

abbrev pub do_share_on : List Vec3 → List Vec3 → ℤ → Panel → Bool
do_share_on f g k panel = do_share_cell (box_of f panel k) (box_of g panel k)

-- two faces share a cell on one of the six panels: `IsCandidate` as a test
abbrev pub are_candidates : List Vec3 → List Vec3 → ℤ → Bool
are_candidates f g k =
    do_share_on f g k PlusX
    || (do_share_on f g k PlusY
    || (do_share_on f g k MinusX
    || (do_share_on f g k MinusY
    || (do_share_on f g k PlusZ
    || do_share_on f g k MinusZ))))

-- the candidates of face i of the mesh a among the faces of the mesh b, ascending
unfoldable pub candidates_of : RawMesh → ℕ → RawMesh → List ℕ
candidates_of a i b = filter (λ j. are_candidates (corners_of a i) (corners_of b j) (fineness_of (length b.faces))) (range_with_len 1 (length b.faces))

-- the list of candidates has exactly the faces that are candidates
abbrev pub LawCandidatesOf : Type 0
LawCandidatesOf = (a : RawMesh) (i : ℕ) (b : RawMesh) (j : ℕ) → Contains (candidates_of a i b) j ↔ AreCandidates a i b j
