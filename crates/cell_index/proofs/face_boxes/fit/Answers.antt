use Rattle.std.proofs.Common.{◌≡◌, ◌-◌, arith, to_z, of_z, length}
use Rattle.std.proofs.lemmas.Int.{to_z-of_z}
use mir.Syntax.{w32}
use Rattle.mesh_check.specs.Mesh.{corners_of}
use Rattle.cell_index.specs.Box.{u_floor, v_floor}
use Rattle.cell_index.proofs.FaceNodes.{least_step, greatest_step, range_all}
use Rattle.cell_index.proofs.face_boxes.fit.Goals as goal

pub loop-t-preserved : goal.loop-t-preserved
loop-t-preserved c =
    let vs = corners_of c.args.mesh.now c.args.face in
    let k = to_z w32 (of_z w32 c.args.k) in
    let i = c.loop-t.invariant in
    let f = c.node_cell-in-loop-t.ensures in
    let w = c.widened-range.ensures in
    record {
      u0 = least_step (u_floor vs c.args.panel k) c.loop-t.t _ _ _ i.u0 f.u_floor w.u0;
      u1 = greatest_step (u_floor vs c.args.panel k) c.loop-t.t _ _ _ i.u1 f.u_floor w.u1;
      v0 = least_step (v_floor vs c.args.panel k) c.loop-t.t _ _ _ i.v0 f.v_floor w.v0;
      v1 = greatest_step (v_floor vs c.args.panel k) c.loop-t.t _ _ _ i.v1 f.v_floor w.v1;
    }

pub returns : goal.returns
returns c =
    let fk = c.ranges.k in
    let vs = corners_of c.args.mesh.now c.args.face in
    let i = simp to_z-of_z at c.loop-t.invariant in
    let q = simp to_z-of_z at c.whole.ensures in
    let e : c.loop-t.t ≡ length vs - 1 = omega arith in
    let w = c.common.ensures in
    range_all vs c.args.panel c.args.k c.loop-t.t c.loop-t.range c.whole.result c.common.result i e q w.u0 w.u1 w.v0 w.v1
