use Rattle.std.proofs.Common.{◌≡◌, ◌+◌}
use Rattle.remap_files.specs.OverlapRows.{ring_begin}
use Rattle.overlap_load.proofs.windows.rings_between.Given as goal

abbrev pub invariant-loop-row : goal.invariant-loop-row
invariant-loop-row l = ring_begin l.rows.ring_size l.from + l.sum ≡ ring_begin l.rows.ring_size l.row
