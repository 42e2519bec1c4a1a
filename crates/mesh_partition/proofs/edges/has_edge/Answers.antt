use Rattle.std.proofs.Common.{◌∙◌}
use Rattle.mesh_partition.proofs.Found.{search_tells}
use Rattle.mesh_partition.proofs.edges.has_edge.Goals as goal

pub returns : goal.returns
returns c =
    c.is_ok.ensures.value
    ∙ search_tells c.args.edges.now c.args.edge c.binary_search.result c.requires c.binary_search.ensures.bound c.binary_search.ensures.position
