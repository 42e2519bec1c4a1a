use Rattle.std.proofs.Common.{◌≡◌, take}
use Rattle.std.specs.List.{flat_map}
use Rattle.gen_ico.specs.Icosahedron.{base_triangles}
use Rattle.gen_ico.specs.Icosahedral.{triangle_faces}
use Rattle.gen_ico.proofs.faces.all_faces.Given as goal

abbrev pub invariant-loop-s : goal.invariant-loop-s
invariant-loop-s l = l.out.items ≡ flat_map (triangle_faces l.nodes l.n) (take l.s base_triangles)
