use Rattle.std.proofs.Common.{◌≡◌, ◌++◌}
use Rattle.std.specs.List.{flat_map, range_with_len}
use Rattle.gen_cs.specs.CubedSphere.{nodes_of, row_faces}
use Rattle.gen_cs.proofs.faces.put_panel.Given as goal

abbrev pub invariant-loop-j : goal.invariant-loop-j
invariant-loop-j l = l.out.items ≡ l.fn.out.items ++ flat_map (row_faces (nodes_of l.n) l.n l.panel) (range_with_len 0 l.j)
