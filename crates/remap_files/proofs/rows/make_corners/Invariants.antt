use Rattle.std.proofs.Common.{◌≡◌, ◌≤◌, ◌-◌, ◌*◌, ◌++◌, length}
use Rattle.exodus_mesh.specs.MeshValues.{rows_of}
use Rattle.remap_files.proofs.rows.make_corners.Given as goal

abbrev pub invariant-loop : goal.invariant-loop
invariant-loop l = record {
  corners : l.items.items ++ rows_of (l.count - l.counter) 3 l.rest ≡ rows_of l.count 3 l.numbers;
  left : 3 * (l.count - l.counter) ≤ length l.rest;
}
