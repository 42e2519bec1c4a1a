use Rattle.std.proofs.Common.{◌≡◌, ◌++◌}
use Rattle.std.specs.List.{flat_map, range_with_len}
use Rattle.gen_cs.specs.CubedSphere.{row_of}
use Rattle.gen_cs.proofs.nodes.put_slice.Given as goal

abbrev pub invariant-loop-b : goal.invariant-loop-b
invariant-loop-b l = l.out.items ≡ l.fn.out.items ++ flat_map (row_of l.n l.a) (range_with_len 0 l.b)
