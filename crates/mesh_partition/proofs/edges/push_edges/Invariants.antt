use Rattle.std.proofs.Common.{◌≡◌, ◌++◌, map}
use Rattle.std.specs.List.{range_with_len}
use Rattle.mesh_partition.specs.Edges.{edge_at}
use Rattle.mesh_partition.proofs.edges.push_edges.Given as goal

abbrev pub invariant-loop-t : goal.invariant-loop-t
invariant-loop-t l = l.edges.items ≡ l.fn.edges.items ++ map (edge_at l.mesh l.face) (range_with_len 0 l.t)
