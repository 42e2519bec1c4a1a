use Rattle.std.proofs.Common.{◌≡◌, ◌++◌, ◌-◌, ◌*◌, map, length}
use Rattle.exodus_mesh.specs.MeshValues.{face_of_row, rows_of, block_faces}
use Rattle.exodus_mesh.proofs.values.put_block.Given as goal

abbrev pub invariant-loop-number : goal.invariant-loop-number
invariant-loop-number l = record {
  faces : l.out.items ++ map face_of_row (rows_of (l.block.faces - l.number) l.block.width l.rest) ≡ l.fn.out.items ++ block_faces l.block l.fn.numbers;
  left : length l.rest ≡ (l.block.faces - l.number) * l.block.width;
}
