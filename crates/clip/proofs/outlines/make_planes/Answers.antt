use Rattle.std.proofs.Common.{ap, ◌∙◌, arith}
use Rattle.clip.proofs.OutlineFacts.{one_more_plane, length-wide_list}
use Rattle.clip.proofs.Pair.{all_edges}
use Rattle.clip.specs.Outlines.{wide_list}
use Rattle.clip.proofs.outlines.make_planes.Goals as goal

pub loop-t-preserved : goal.loop-t-preserved
loop-t-preserved c = record {
  len = omega (arith, c.push.ensures.len, c.loop-t.invariant.len);
  planes = ap wide_list c.push.ensures.items ∙ one_more_plane c.loop-t.planes.items c.args.nodes.now c.loop-t.t c.next_place-following.result c.narrow_cross.result c.loop-t.invariant.planes c.loop-t-test.true c.next_place-following.ensures.value c.next_place-following.ensures.below c.narrow_cross.ensures.value;
}

pub returns : goal.returns
returns c = c.loop-t.invariant.planes ∙ all_edges (wide_list c.args.nodes.now) c.loop-t.t (omega (arith, length-wide_list c.args.nodes.now))
