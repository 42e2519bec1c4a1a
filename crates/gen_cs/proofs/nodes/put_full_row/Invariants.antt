use Rattle.std.proofs.Common.{◌≡◌, ◌++◌}
use Rattle.std.specs.List.{flat_map, range_with_len}
use Rattle.gen_cs.specs.CubedSphere.{if_node}
use Rattle.gen_cs.proofs.nodes.put_full_row.Given as goal

abbrev pub invariant-loop-c : goal.invariant-loop-c
invariant-loop-c l = l.out.items ≡ l.fn.out.items ++ flat_map (if_node l.n l.a l.b) (range_with_len 0 l.c)
