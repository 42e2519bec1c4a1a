use Rattle.std.proofs.Common.{◌≡◌, ◌-◌, ◌+◌, pos, ◌≤ℤ◌, below_more, ap, ◌∙◌, subst, arith}
use Rattle.vec_exact.specs.declared.Vec3.{Vec3}
use Rattle.vec_exact.specs.Vector.{inner}
use Rattle.vec_exact.specs.Cycle.{vector_at}
use Rattle.mesh_check.specs.Mesh.{corners_of}
use Rattle.cover_cells.proofs.Away.{not_before}
use Rattle.cover_cells.proofs.near.has_no_node_before.Goals as goal

pub loop-t-preserved : goal.loop-t-preserved
loop-t-preserved c =
    let face = corners_of c.args.a.now c.args.i in
    let t = c.loop-t.t in
    let back : t + 1 - 1 ≡ t = omega arith in
    let at : c.vector.result ≡ vector_at face t = c.vector.ensures ∙ c.node.ensures.corner ∙ ap (vector_at face) back in
    below_more _ _ c.loop-t.invariant
    (subst (λ (v : Vec3). inner c.args.plane v ≤ℤ pos 0) at (not_before c.is_before.result (inner c.args.plane c.vector.result) c.is_before.ensures c.if-is_before.false))
