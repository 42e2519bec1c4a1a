use Rattle.std.proofs.Common.{◌≡◌, ◌++◌}
use Rattle.std.specs.List.{flat_map, range_with_len}
use Rattle.gen_ico.specs.Icosahedral.{row_faces}
use Rattle.gen_ico.specs.Rows.{row_numbers}
use Rattle.gen_ico.proofs.faces.put_triangle.Given as goal

abbrev pub invariant-loop-i : goal.invariant-loop-i
invariant-loop-i l =
    (l.out.items ≡ l.fn.out.items ++ flat_map (row_faces l.nodes l.n l.triangle) (range_with_len 0 l.i))
    × (l.row.items ≡ row_numbers l.nodes l.n l.triangle l.i)
