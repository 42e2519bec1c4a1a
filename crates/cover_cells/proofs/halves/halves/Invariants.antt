use Rattle.std.proofs.Common.{◌≡◌, take}
use Rattle.std.specs.Prelude.{All}
use Rattle.vec_exact.specs.declared.Vec3.{Vec3}
use Rattle.mesh_check.specs.Mesh.{corners_of}
use Rattle.cover_cells.specs.Cells.{plane_of, IsCell, is_positive, cells_with}
use Rattle.cover_cells.specs.Splitting.{number_if}
use Rattle.cover_cells.proofs.halves.halves.Given as goal

abbrev pub invariant-loop-cell : goal.invariant-loop-cell
invariant-loop-cell l =
    let target = corners_of l.b l.j in
    record {
      cells : All (IsCell l.a target) l.parts.items;
      count : (d : Vec3) → cells_with l.a target d l.parts.items ≡ number_if (is_positive d (plane_of l.a target l.p)) (cells_with l.a target d (take l.cell-index l.cells));
    }
