use Rattle.std.proofs.Common.{◌≡◌, ◌≤◌, ◌*◌, take}
use Rattle.remap_files.specs.OverlapDocument.{corner_count_of}
use Rattle.remap_files.proofs.lengths.count_corners.Given as goal

abbrev pub invariant-loop-piece : goal.invariant-loop-piece
invariant-loop-piece l = record {
  sum : l.count ≡ corner_count_of (take l.piece-index l.pieces);
  least : 3 * l.piece-index ≤ l.count;
  greatest : l.count ≤ 32 * l.piece-index;
}
