use Rattle.std.proofs.Common.{◌≡◌, ℕ, ◌<◌, length}
use Rattle.vec_exact.specs.Vector.{inner}
use Rattle.vec_exact.specs.Cycle.{corner, vector_at}
use Rattle.mesh_check.specs.Mesh.{corners_of}
use Rattle.cover_cells.specs.Cells.{planes_of}
use Rattle.cover_cells.specs.Sides.{side_at}
use Rattle.cover_cells.proofs.planes.sides_on.Given as goal

abbrev pub invariant-loop-t : goal.invariant-loop-t
invariant-loop-t l =
    let planes = planes_of l.a (corners_of l.b l.j) l.cell in
    record {
      len : length l.sides.items ≡ l.t;
      each : (u : ℕ) → u < l.t → side_at l.sides.items u ≡ inner l.x (corner (length planes) (vector_at planes) u);
    }
