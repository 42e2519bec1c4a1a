use Rattle.std.proofs.Common.{◌≡◌, ◌++◌, map}
use Rattle.std.specs.List.{range_with_len}
use Rattle.gen_cs.specs.CubedSphere.{nodes_of, face_at}
use Rattle.gen_cs.proofs.faces.put_row.Given as goal

abbrev pub invariant-loop-i : goal.invariant-loop-i
invariant-loop-i l = l.out.items ≡ l.fn.out.items ++ map (face_at (nodes_of l.n) l.n l.panel l.j) (range_with_len 0 l.i)
