use Rattle.std.proofs.Common.{◌≡◌, take, map, All}
use Rattle.offline_map.specs.Maps.{row_of}
use Rattle.offline_map.specs.MapFaults.{IsRightPiece}
use Rattle.offline_map.proofs.make.put_pieces.Given as goal

abbrev pub invariant-loop-piece : goal.invariant-loop-piece
invariant-loop-piece l = record {
  made : l.maker ≡ record { a = l.fn.maker.a; b = l.fn.maker.b; rows = map row_of (take l.piece-index l.pieces) };
  right : All (IsRightPiece l.fn.maker.a l.fn.maker.b) (take l.piece-index l.pieces);
}
