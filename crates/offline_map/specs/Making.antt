-- A map in the making: the rows of the pieces that were put so far. Source: our own.
use Rattle.std.specs.Prelude.{◌≡◌, ◌≢◌, ℕ, ◌+◌, List, [], ◌∷◌, ◌++◌, length, map}
use Rattle.vec_exact.specs.declared.RawMesh.{RawMesh}
use Rattle.clip.specs.declared.pieces.Piece.{Piece}
use Rattle.clip.specs.Overlaps.{OverlapParts, IsSoundOverlap}
use Rattle.map_rows.specs.declared.rows.MapRow.{MapRow}
use Rattle.offline_map.specs.declared.faults.MapFault.{MapFault}
use Rattle.offline_map.specs.declared.faults.MapFault.TheVariants.{CountsA, CountsB, Row, NoMemory}
use Rattle.offline_map.specs.Maps.{row_of}
use Rattle.offline_map.specs.MapFaults.{IsRightPiece, HasCountsOf}

-- two meshes, and the rows of the pieces that were put so far
pub record Making : Type 0 where
  pub a : RawMesh
  pub b : RawMesh
  pub rows : List MapRow

-- one piece more
abbrev pub with_piece : Making → Piece → Making
with_piece m p = record m { rows = m.rows ++ row_of p ∷ [] }

-- the rows so far are those of the pieces of an overlap that has the face counts of the two meshes
pub record IsMadeOf (m : Making) (o : OverlapParts) : Type 0 where
  pub sound : IsSoundOverlap o
  pub counts : HasCountsOf m.a m.b o
  pub rows : m.rows ≡ map row_of o.pieces

-- this fault may come of the face counts of an overlap: the source counts, then the target counts, and want of memory always
abbrev pub IsFaultOfCounts : RawMesh → RawMesh → ℕ → ℕ → MapFault → Type 0
IsFaultOfCounts a b faces_a faces_b (CountsA file mesh) = (file ≡ faces_a) × (mesh ≡ length a.faces) × (file ≢ mesh)
IsFaultOfCounts a b faces_a faces_b (CountsB file mesh) = (faces_a ≡ length a.faces) × (file ≡ faces_b) × (mesh ≡ length b.faces) × (file ≢ mesh)
IsFaultOfCounts a b faces_a faces_b NoMemory = Unit {0}
IsFaultOfCounts a b faces_a faces_b fault = ⊥

-- this fault may come of the next piece: it isn't right, and its number follows those of the rows so far; and want of memory always
abbrev pub IsFaultOfPiece : Making → Piece → MapFault → Type 0
IsFaultOfPiece m p (Row r) = (r ≡ length m.rows + 1) × (IsRightPiece m.a m.b p → ⊥)
IsFaultOfPiece m p NoMemory = Unit {0}
IsFaultOfPiece m p fault = ⊥
