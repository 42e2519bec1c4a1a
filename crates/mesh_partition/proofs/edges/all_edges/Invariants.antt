use Rattle.std.proofs.Common.{◌≡◌, ◌≤◌, ◌+◌, ◌*◌, length}
use Rattle.std.specs.List.{flat_map, range_with_len}
use Rattle.mesh_partition.specs.Edges.{edges_of_face}
use Rattle.mesh_partition.proofs.edges.all_edges.Given as goal

abbrev pub invariant-loop-i : goal.invariant-loop-i
invariant-loop-i l = record {
  edges : l.edges.items ≡ flat_map (λ i. edges_of_face l.mesh (i + 1)) (range_with_len 0 l.i);
  few : length l.edges.items ≤ 16 * l.i;
}
