use Rattle.std.proofs.Common.{◌≡◌, ◌≤◌, ◌*◌, length, map}
use Rattle.std.specs.List.{range_with_len}
use Rattle.remap_files.specs.OverlapRows.{ring_begin, piece_at}
use Rattle.remap_files.specs.Rows.{with_corners}
use Rattle.remap_files.proofs.rows.make_pieces.Given as goal

abbrev pub invariant-loop-number : goal.invariant-loop-number
invariant-loop-number l = record {
  pieces : l.pieces.items ≡ map (piece_at (with_corners l.rows l.corners)) (range_with_len 0 l.number);
  begin : l.begin ≡ ring_begin l.rows.ring_size l.number;
  inside : l.begin ≤ length l.rows.ring_plane;
  small : l.begin ≤ 32 * l.number;
}
