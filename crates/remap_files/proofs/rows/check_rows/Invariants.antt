use Rattle.std.proofs.Common.{◌≡◌, ◌≤◌, ◌*◌, length}
use Rattle.remap_files.specs.OverlapRows.{ring_begin}
use Rattle.remap_files.proofs.RowFaults.{AreGood}
use Rattle.remap_files.proofs.rows.check_rows.Given as goal

abbrev pub invariant-loop-number : goal.invariant-loop-number
invariant-loop-number l = record {
  good : AreGood l.vars l.rows l.number;
  begin : l.begin ≡ ring_begin l.rows.ring_size l.number;
  inside : l.begin ≤ length l.rows.ring_plane;
  small : l.begin ≤ 32 * l.number;
}
