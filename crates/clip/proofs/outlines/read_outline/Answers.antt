use Rattle.std.proofs.Common.{ap, ◌∙◌}
use Rattle.mesh_check.specs.Mesh.{corners_of}
use Rattle.clip.specs.Outlines.{wide_list}
use Rattle.clip.proofs.OutlineFacts.{wide_nodes_small}
use Rattle.clip.proofs.outlines.read_outline.Goals as goal

pub make_planes-requires-clause-nodes : goal.make_planes-requires-clause-nodes
make_planes-requires-clause-nodes c =
    wide_nodes_small (corners_of c.args.mesh.now c.args.face) c.as_slice.result.now c.edge_count.ensures.accepted.accepted (ap wide_list c.as_slice.ensures.value ∙ c.read_nodes.ensures)
