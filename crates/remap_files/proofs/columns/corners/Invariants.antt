use Rattle.std.proofs.Common.{◌≡◌, take, All}
use Rattle.clip.specs.declared.pieces.Piece.{Piece}
use Rattle.clip.specs.Columns.{corner_column}
use Rattle.remap_files.specs.OverlapDocument.{IsCorner}
use Rattle.remap_files.proofs.columns.corners.Given as goal

abbrev pub invariant-loop-piece : goal.invariant-loop-piece
invariant-loop-piece l = record {
  values : l.values.items ≡ corner_column (take l.piece-index l.pieces);
  typed : All (λ (p : Piece). All IsCorner p.corners) (take l.piece-index l.pieces);
}
