use Rattle.std.proofs.Common.{refl}
use Rattle.clip.specs.Outlines.{nodes_of}
use Rattle.clip.proofs.OutlineFacts.{parts_of, plane_small, kept_off_nodes}
use Rattle.clip.proofs.outlines.planes_keep_off.Goals as goal

pub is_beyond-requires-clause-plane : goal.is_beyond-requires-clause-plane
is_beyond-requires-clause-plane c = plane_small _ _ _ (parts_of c.args.f.now _ c.as_slice-planes.result.now c.requires.f refl c.as_slice-planes.ensures.value) c.loop-t.t c.loop-t-test.true

pub returns-then-is_beyond : goal.returns-then-is_beyond
returns-then-is_beyond c = λ _.
    kept_off_nodes (nodes_of c.args.f.now) _ c.as_slice-planes.result.now c.args.nodes.now c.loop-t.t (parts_of c.args.f.now _ c.as_slice-planes.result.now c.requires.f refl c.as_slice-planes.ensures.value) c.loop-t-test.true
    (c.is_beyond.ensures c.if-is_beyond.true)
