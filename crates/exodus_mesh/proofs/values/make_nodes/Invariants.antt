use Rattle.std.proofs.Common.{◌≡◌, map}
use Rattle.std.specs.List.{range_with_len}
use Rattle.exodus_mesh.specs.MeshValues.{node_at}
use Rattle.exodus_mesh.proofs.values.make_nodes.Given as goal

abbrev pub invariant-loop-p : goal.invariant-loop-p
invariant-loop-p l = l.out.items ≡ map (node_at l.x l.y l.z) (range_with_len 0 l.p)
