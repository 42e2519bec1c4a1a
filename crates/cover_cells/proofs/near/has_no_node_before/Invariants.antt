use Rattle.std.proofs.Common.{ℕ, ◌<◌, pos, ◌≤ℤ◌}
use Rattle.vec_exact.specs.Vector.{inner}
use Rattle.vec_exact.specs.Cycle.{vector_at}
use Rattle.mesh_check.specs.Mesh.{corners_of}
use Rattle.cover_cells.proofs.near.has_no_node_before.Given as goal

abbrev pub invariant-loop-t : goal.invariant-loop-t
invariant-loop-t l = (u : ℕ) → u < l.t → inner l.plane (vector_at (corners_of l.a l.i) u) ≤ℤ pos 0
