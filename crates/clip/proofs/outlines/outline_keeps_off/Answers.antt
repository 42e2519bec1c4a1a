use Rattle.std.proofs.Common.{refl}
use Rattle.clip.specs.Outlines.{nodes_of}
use Rattle.clip.proofs.OutlineFacts.{parts_of, nodes_small}
use Rattle.clip.proofs.outlines.outline_keeps_off.Goals as goal

pub planes_keep_off-requires-clause-nodes : goal.planes_keep_off-requires-clause-nodes
planes_keep_off-requires-clause-nodes c = nodes_small (nodes_of c.args.g.now) _ _ (parts_of c.args.g.now c.as_slice.result.now _ c.requires.g c.as_slice.ensures.value refl)
