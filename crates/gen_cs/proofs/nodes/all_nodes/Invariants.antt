use Rattle.std.proofs.Common.{◌≡◌}
use Rattle.std.specs.List.{flat_map, range_with_len}
use Rattle.gen_cs.specs.CubedSphere.{slice_of}
use Rattle.gen_cs.proofs.nodes.all_nodes.Given as goal

abbrev pub invariant-loop-a : goal.invariant-loop-a
invariant-loop-a l = l.out.items ≡ flat_map (slice_of l.n) (range_with_len 0 l.a)
