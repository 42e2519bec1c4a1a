use Rattle.std.proofs.Common.{◌≡◌, ◌++◌, map}
use Rattle.std.specs.List.{range_with_len}
use Rattle.gen_ico.specs.Icosahedral.{number_at}
use Rattle.gen_ico.proofs.faces.put_numbers.Given as goal

abbrev pub invariant-loop-j : goal.invariant-loop-j
invariant-loop-j l = l.out.items ≡ l.fn.out.items ++ map (number_at l.nodes l.n l.triangle l.i) (range_with_len 0 l.j)
