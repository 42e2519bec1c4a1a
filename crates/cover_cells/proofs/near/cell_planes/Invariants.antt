use Rattle.std.proofs.Common.{◌≡◌, take, map}
use Rattle.std.specs.Prelude.{All}
use Rattle.vec_exact.specs.Size.{Is37}
use Rattle.mesh_check.specs.Mesh.{corners_of}
use Rattle.cover_cells.specs.Cells.{plane_of}
use Rattle.cover_cells.proofs.near.cell_planes.Given as goal

abbrev pub invariant-loop-t : goal.invariant-loop-t
invariant-loop-t l = record {
  value : l.planes.items ≡ map (plane_of l.a (corners_of l.b l.j)) (take l.t l.cell);
  size : All Is37 l.planes.items;
}
