use Rattle.std.proofs.Common.{below_more}
use Rattle.vec_exact.specs.Vector.{inner}
use Rattle.vec_exact.specs.Cycle.{vector_at}
use Rattle.cover_cells.proofs.Away.{not_before}
use Rattle.cover_cells.proofs.near.has_no_corner_before.Goals as goal

pub loop-corner-preserved : goal.loop-corner-preserved
loop-corner-preserved c =
    below_more _ _ c.loop-corner.invariant
    (not_before c.is_before.result (inner c.args.plane (vector_at c.args.corners.now c.loop-corner.corner-index)) c.is_before.ensures c.if-is_before.false)
