-- The first fault of an overlap as one of two meshes. Source: our own.
use Rattle.std.specs.Prelude.{◌≡◌, ◌≢◌, ℕ, ◌-◌, ◌<◌, ◌≤◌, ℤ, pos, ◌≤ℤ◌, ◌<ℤ◌, List, length, take, All}
use Rattle.std.specs.List.{HoldsAt, Any}
use Rattle.vec_exact.specs.declared.RawMesh.{RawMesh}
use Rattle.cone_laws.specs.Ring.{planes_of_pair, listed, IsRing}
use Rattle.mesh_check.specs.Mesh.{corners_of}
use Rattle.clip.specs.declared.pieces.Piece.{Piece}
use Rattle.clip.specs.Overlaps.{OverlapParts}
use Rattle.piece_measure.specs.Grid.{grid_corners_of}
use Rattle.offline_map.specs.declared.faults.MapFault.{MapFault}
use Rattle.offline_map.specs.declared.faults.MapFault.TheVariants.{CountsA, CountsB, Row, Uncovered, NoMemory}

-- the piece has the ring of its two faces, and the grid corners of that ring, in order
pub record IsRightPiece (a b : RawMesh) (p : Piece) : Type 0 where
  pub ring : IsRing (corners_of a p.a) (corners_of b p.b) p.ring.items
  pub corners : p.corners ≡ grid_corners_of (length p.ring.items) (listed (planes_of_pair (corners_of a p.a) (corners_of b p.b)) p.ring.items)

-- the overlap has the face counts of the two meshes
pub record HasCountsOf (a b : RawMesh) (o : OverlapParts) : Type 0 where
  pub source : o.faces_a ≡ length a.faces
  pub target : o.faces_b ≡ length b.faces

-- the piece with this number, from 1, is the first that is not right
pub record IsFirstWrongPiece (a b : RawMesh) (pieces : List Piece) (r : ℕ) : Type 0 where
  pub least : 1 ≤ r
  pub greatest : r ≤ length pieces
  pub before : All (IsRightPiece a b) (take (r - 1) pieces)
  pub here : HoldsAt (λ (p : Piece). IsRightPiece a b p → ⊥) pieces (r - 1)

-- this fault may come of the pieces: the first that is not right, and want of memory always
abbrev pub IsFaultOfPieces : RawMesh → RawMesh → List Piece → MapFault → Type 0
IsFaultOfPieces a b pieces (Row r) = IsFirstWrongPiece a b pieces r
IsFaultOfPieces a b pieces NoMemory = Unit {0}
IsFaultOfPieces a b pieces fault = ⊥

-- some piece lies in this target face, so that it has a row
abbrev pub HasRow : List Piece → ℕ → Type 0
HasRow pieces j = Any (λ (p : Piece). p.b ≡ j) pieces

-- target face j of n is the first without a row
pub record IsFirstWithoutRow (pieces : List Piece) (n j : ℕ) : Type 0 where
  pub least : 1 ≤ j
  pub greatest : j ≤ n
  pub before : (k : ℕ) → 1 ≤ k → k < j → HasRow pieces k
  pub here : HasRow pieces j → ⊥

-- face j of a side, from 1, is the first whose area is below 1
pub record IsFirstWithoutArea (areas : List ℤ) (j : ℕ) : Type 0 where
  pub least : 1 ≤ j
  pub greatest : j ≤ length areas
  pub before : All (λ (area : ℤ). pos 1 ≤ℤ area) (take (j - 1) areas)
  pub here : HoldsAt (λ (area : ℤ). area <ℤ pos 1) areas (j - 1)

abbrev pub IsFaultOfAreas : List ℤ → MapFault → Type 0
IsFaultOfAreas areas (Uncovered j) = IsFirstWithoutArea areas j
IsFaultOfAreas areas fault = ⊥

-- this is the first fault: the source counts, then the target counts, then the pieces ascending, and where they are all right, the target faces ascending
abbrev pub IsMapFaultOf : RawMesh → RawMesh → OverlapParts → MapFault → Type 0
IsMapFaultOf a b o (CountsA file mesh) = (file ≡ o.faces_a) × (mesh ≡ length a.faces) × (file ≢ mesh)
IsMapFaultOf a b o (CountsB file mesh) = (o.faces_a ≡ length a.faces) × (file ≡ o.faces_b) × (mesh ≡ length b.faces) × (file ≢ mesh)
IsMapFaultOf a b o (Row r) = HasCountsOf a b o × IsFirstWrongPiece a b o.pieces r
IsMapFaultOf a b o (Uncovered j) = HasCountsOf a b o × All (IsRightPiece a b) o.pieces × IsFirstWithoutRow o.pieces o.faces_b j
IsMapFaultOf a b o NoMemory = ⊥

-- the overlap is one of the two meshes, as far as its pieces go, and each target face has a row
pub record IsMappable (a b : RawMesh) (o : OverlapParts) : Type 0 where
  pub counts : HasCountsOf a b o
  pub pieces : All (IsRightPiece a b) o.pieces
  pub covered : (j : ℕ) → 1 ≤ j → j ≤ o.faces_b → HasRow o.pieces j

-- an overlap has at most one map fault as one of two meshes, and none where it is mappable
pub record OneMapFault (a b : RawMesh) (o : OverlapParts) : Type 0 where
  pub same : (f g : MapFault) → IsMapFaultOf a b o f → IsMapFaultOf a b o g → f ≡ g
  pub none : (f : MapFault) → IsMappable a b o → IsMapFaultOf a b o f → ⊥
