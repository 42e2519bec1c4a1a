use Rattle.std.proofs.Common.{ap, ◌∙◌}
use Rattle.mesh_check.specs.Mesh.{corners_of}
use Rattle.clip.specs.Outlines.{wide_list}
use Rattle.clip.proofs.OutlineFacts.{wide_nodes_small}
use Rattle.clip.proofs.outlines.read_unless_kept_off.Goals as goal

pub planes_keep_off-requires-clause-nodes : goal.planes_keep_off-requires-clause-nodes
planes_keep_off-requires-clause-nodes c =
    wide_nodes_small (corners_of c.args.mesh.now c.args.face) c.as_slice-nodes.result.now c.edge_count.ensures.accepted.accepted (ap wide_list c.as_slice-nodes.ensures.value ∙ c.read_nodes.ensures)

pub make_planes-requires-clause-nodes : goal.make_planes-requires-clause-nodes
make_planes-requires-clause-nodes c =
    wide_nodes_small (corners_of c.args.mesh.now c.args.face) c.as_slice-nodes.result.now c.edge_count.ensures.accepted.accepted (ap wide_list c.as_slice-nodes.ensures.value ∙ c.read_nodes.ensures)
