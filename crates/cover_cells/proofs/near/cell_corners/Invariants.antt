use Rattle.std.proofs.Common.{◌≡◌, ℕ, ◌<◌, length}
use Rattle.std.specs.Prelude.{All}
use Rattle.vec_exact.specs.Size.{Is75}
use Rattle.vec_exact.specs.Cycle.{corner, vector_at}
use Rattle.mesh_check.specs.Mesh.{corners_of}
use Rattle.cover_cells.specs.Cells.{planes_of}
use Rattle.cover_cells.proofs.near.cell_corners.Given as goal

abbrev pub invariant-loop-t : goal.invariant-loop-t
invariant-loop-t l =
    let planes = planes_of l.a (corners_of l.b l.j) l.cell in
    record {
      len : length l.corners.items ≡ l.t;
      each : (u : ℕ) → u < l.t → vector_at l.corners.items u ≡ corner (length planes) (vector_at planes) u;
      size : All Is75 l.corners.items;
    }
