use Rattle.std.proofs.Common.{◌≡◌, take}
use Rattle.std.specs.List.{flat_map}
use Rattle.gen_ico.specs.Icosahedron.{base_triangles}
use Rattle.gen_ico.specs.Icosahedral.{triangle_points}
use Rattle.gen_ico.proofs.points.all_points.Given as goal

abbrev pub invariant-loop-s : goal.invariant-loop-s
invariant-loop-s l = l.out.items ≡ flat_map (triangle_points l.n) (take l.s base_triangles)
