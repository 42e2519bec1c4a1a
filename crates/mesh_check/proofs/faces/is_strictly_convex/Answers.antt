use Rattle.std.proofs.Common.{rules}
use borrow.Author.Count.{below_more}
use Rattle.vec_exact.specs.Face.{face_nodes}
use Rattle.mesh_check.specs.FirstFault.{IsPositiveEdge}
use Rattle.mesh_check.proofs.faces.is_strictly_convex.Goals as goal

pub loop-t-preserved : goal.loop-t-preserved
loop-t-preserved c =
    let f = face_nodes c.args.nodes.now c.args.face.now in
    below_more (IsPositiveEdge f) c.loop-t.t c.loop-t.invariant (c.if-not-is_positive_edge.ensures.yes (search rules))
