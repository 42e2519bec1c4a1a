use Rattle.std.proofs.Common.{length, arith, refl, ◌∙◌}
use Rattle.vec_exact.specs.Cycle.{corner}
use Rattle.cone_laws.specs.Ring.{listed, planes_of_pair}
use Rattle.clip.specs.Outlines.{nodes_of}
use Rattle.overlap_run.proofs.RingCorners.{one_more_corner, all_corners}
use Rattle.overlap_run.proofs.rings.grid_corners.Goals as goal

pub grid_of_form-requires : goal.grid_of_form-requires
grid_of_form-requires c =
    let l = c.args.ring.now.items in
    let n = listed (planes_of_pair (nodes_of c.args.f.now) (nodes_of c.args.g.now)) l in
    (corner (length l) n c.loop-t.t, c.requires.nonzero c.loop-t.t (omega (arith, c.len-t-end.ensures.value, c.loop-t-test.true)), c.corner_form.ensures)

pub loop-t-preserved : goal.loop-t-preserved
loop-t-preserved c =
    let l = c.args.ring.now.items in
    let n = listed (planes_of_pair (nodes_of c.args.f.now) (nodes_of c.args.g.now)) l in
    one_more_corner (length l) n c.loop-t.t c.loop-t.t c.loop-t.items.items _ (corner (length l) n c.loop-t.t) c.grid_of_form.result
    c.loop-t.invariant c.in_ok-push.ensures.ok (c.grid_of_form.ensures (corner (length l) n c.loop-t.t) c.corner_form.ensures) refl refl

pub returns : goal.returns
returns c =
    let l = c.args.ring.now.items in
    let n = listed (planes_of_pair (nodes_of c.args.f.now) (nodes_of c.args.g.now)) l in
    c.loop-t.invariant ∙ all_corners (length l) n c.loop-t.t (omega (arith, c.len-t-end.ensures, c.loop-t.auto.t-end, c.loop-t-test.false))
