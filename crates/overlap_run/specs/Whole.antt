-- The overlap of two meshes. Source: our own.
use Rattle.std.specs.Prelude.{◌≡◌, ◌<◌, List, length, map, All}
use Rattle.vec_exact.specs.declared.RawMesh.{RawMesh}
use Rattle.cone_laws.specs.Ring.{planes_of_pair, listed, IsRing}
use Rattle.mesh_check.specs.Mesh.{corners_of}
use Rattle.clip.specs.declared.pieces.Piece.{Piece}
use Rattle.clip.specs.Overlaps.{OverlapParts, IsSoundOverlap}
use Rattle.piece_measure.specs.Grid.{grid_corners_of}
use Rattle.overlap_run.specs.declared.faults.RunFault.{RunFault}
use Rattle.overlap_run.specs.declared.faults.RunFault.TheVariants.{TooManyPieces, NoMemory}
use Rattle.overlap_run.specs.Pairs.{FacePair, IsMeetingPairs, IsPairCount}

-- the two faces that share a piece
abbrev pub pair_of : Piece → FacePair
pair_of p = record { source = p.a; target = p.b }

-- the ring of the piece is that of its two faces, and its corners are the grid corners of the ring, in order
pub record IsPieceOf (a b : RawMesh) (p : Piece) : Type 0 where
  pub ring : IsRing (corners_of a p.a) (corners_of b p.b) p.ring.items
  pub corners : p.corners ≡ grid_corners_of (length p.ring.items) (listed (planes_of_pair (corners_of a p.a) (corners_of b p.b)) p.ring.items)

-- o is the overlap of a and b
pub record IsOverlapOf (a b : RawMesh) (o : OverlapParts) : Type 0 where
  pub source_faces : o.faces_a ≡ length a.faces
  pub target_faces : o.faces_b ≡ length b.faces
  -- there is a piece for each pair of faces that meet, in order
  pub pairs : IsMeetingPairs a b (map pair_of o.pieces)
  pub pieces : All (IsPieceOf a b) o.pieces

-- the list holds the pieces of the overlap of a and b
abbrev pub HoldsOverlap : {C : Type 0} → (C → List Piece → Type 0) → RawMesh → RawMesh → C → Type 0
HoldsOverlap Holds a b list = (o : OverlapParts) × IsOverlapOf a b o × IsSoundOverlap o × Holds list o.pieces

-- two meshes have at most one overlap
abbrev pub OneOverlap : Type 0
OneOverlap = (a b : RawMesh) (o p : OverlapParts) → IsOverlapOf a b o → IsOverlapOf a b p → o ≡ p

-- this refusal may come: a number of pieces where that many pairs meet and they are too many, and want of memory always
abbrev pub IsRefusalOf : RawMesh → RawMesh → RunFault → Type 0
IsRefusalOf a b (TooManyPieces n) = IsPairCount a b n × (8388608 < n)
IsRefusalOf a b NoMemory = Unit {0}
