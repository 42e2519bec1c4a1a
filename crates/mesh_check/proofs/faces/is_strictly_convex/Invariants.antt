use Rattle.std.proofs.Common.{ℕ, ◌<◌}
use Rattle.vec_exact.specs.Face.{face_nodes}
use Rattle.mesh_check.specs.FirstFault.{IsPositiveEdge}
use Rattle.mesh_check.proofs.faces.is_strictly_convex.Given as goal

abbrev pub invariant-loop-t : goal.invariant-loop-t
invariant-loop-t l = (t : ℕ) → t < l.t → IsPositiveEdge (face_nodes l.nodes l.face) t
