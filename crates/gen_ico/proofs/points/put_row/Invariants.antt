use Rattle.std.proofs.Common.{◌≡◌, ◌++◌, map}
use Rattle.std.specs.List.{range_with_len}
use Rattle.gen_ico.specs.Icosahedral.{point}
use Rattle.gen_ico.proofs.points.put_row.Given as goal

abbrev pub invariant-loop-j : goal.invariant-loop-j
invariant-loop-j l = l.out.items ≡ l.fn.out.items ++ map (point l.n l.triangle l.i) (range_with_len 0 l.j)
