use Rattle.std.proofs.Common.{◌∙◌, ◌++◌, [], ap, sym, take, add-one, arith}
use Rattle.std.specs.List.{flat_map}
use Rattle.gen_ico.specs.Icosahedron.{base_triangles}
use Rattle.gen_ico.specs.Icosahedral.{triangle_faces}
use Rattle.gen_ico.proofs.Takes.{flat_take}
use Rattle.gen_ico.proofs.faces.all_faces.Goals as goal

pub loop-s-preserved : goal.loop-s-preserved
loop-s-preserved c =
    let piece = triangle_faces c.args.nodes.now c.args.n in
    let s = c.loop-s.s in
    c.in_ok-put_triangle.ensures
    ∙ ap (λ l. l ++ piece c.base_triangle.result) c.loop-s.invariant
    ∙ ap (λ t. flat_map piece (take s base_triangles) ++ piece t) c.base_triangle.ensures.value
    ∙ sym (flat_take piece base_triangles s [] (omega (arith, c.loop-s-test.true)))
    ∙ ap (λ k. flat_map piece (take k base_triangles)) (sym (add-one s))
