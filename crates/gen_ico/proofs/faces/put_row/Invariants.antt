use Rattle.std.proofs.Common.{◌≡◌, ◌++◌}
use Rattle.std.specs.List.{flat_map, range_with_len}
use Rattle.gen_ico.specs.Rows.{faces_between}
use Rattle.gen_ico.proofs.faces.put_row.Given as goal

abbrev pub invariant-loop-j : goal.invariant-loop-j
invariant-loop-j l = l.out.items ≡ l.fn.out.items ++ flat_map (faces_between l.row l.next) (range_with_len 0 l.j)
