use Rattle.std.proofs.Common.{◌≢◌, ℕ, ◌<◌, pos, ◌<ℤ◌}
use Rattle.vec_exact.specs.Vector.{inner}
use Rattle.vec_exact.specs.Cycle.{vector_at}
use Rattle.vec_exact.specs.Face.{face_nodes}
use Rattle.mesh_check.proofs.faces.is_positive_edge.Given as goal

abbrev pub invariant-loop-s : goal.invariant-loop-s
invariant-loop-s l = (s : ℕ) → s < l.s → s ≢ l.t → s ≢ l.next → pos 0 <ℤ inner l.plane (vector_at (face_nodes l.nodes l.face) s)
