use Rattle.std.proofs.Common.{◌≡◌, take}
use Rattle.std.specs.Prelude.{All}
use Rattle.std.specs.List.{list_all}
use Rattle.vec_exact.specs.declared.Vec3.{Vec3}
use Rattle.cone_laws.specs.Ring.{face_planes}
use Rattle.mesh_check.specs.Mesh.{corners_of}
use Rattle.cover_cells.specs.Cells.{IsCell, is_positive, cells_with}
use Rattle.cover_cells.specs.Splitting.{leaves, number_if}
use Rattle.cover_cells.proofs.cutting.cut_cells.Given as goal

abbrev pub invariant-loop-t : goal.invariant-loop-t
invariant-loop-t l =
    let target = corners_of l.b l.j in
    let planes = face_planes (corners_of l.a l.i) in
    record {
      left_cells : All (IsCell l.a target) l.left;
      within_cells : All (IsCell l.a target) l.within;
      left_count : (d : Vec3) → cells_with l.a target d l.left ≡ number_if (leaves d (take l.t planes)) (cells_with l.a target d l.cells);
      within_count : (d : Vec3) → cells_with l.a target d l.within ≡ number_if (list_all (is_positive d) (take l.t planes)) (cells_with l.a target d l.cells);
    }
