use Rattle.std.proofs.Common.{arith, FitsSigned, rules}
use Rattle.std.proofs.lemmas.Int.{ints, to_z-of_z}
use mir.Syntax.{w64}
use Rattle.clip.proofs.NarrowSides.{read_three}
use Rattle.clip.proofs.narrow.narrow_dot.Goals as goal

pub overflow_add-result : goal.overflow_add-result
overflow_add-result c = omega (arith, ints)

pub overflow_add-result-2 : goal.overflow_add-result-2
overflow_add-result-2 c = omega (arith, ints)

pub returns-clause-value : goal.returns-clause-value
returns-clause-value c =
    let ax : FitsSigned w64 c.args.plane.x = search rules in let bx : FitsSigned w64 c.args.node.x = search rules in
    let ay : FitsSigned w64 c.args.plane.y = search rules in let by : FitsSigned w64 c.args.node.y = search rules in
    let az : FitsSigned w64 c.args.plane.z = search rules in let bz : FitsSigned w64 c.args.node.z = search rules in
    let x = simp to_z-of_z at c.side_product.ensures.value in let y = simp to_z-of_z at c.side_product-2.ensures.value in let z = simp to_z-of_z at c.side_product-3.ensures.value in
    cc (read_three c.side_product.result c.side_product-2.result c.side_product-3.result c.side_product.ensures.size c.side_product-2.ensures.size c.side_product-3.ensures.size, x, y, z)

pub returns-clause-size : goal.returns-clause-size
returns-clause-size c = omega (arith, ints, c.side_product.ensures.size, c.side_product-2.ensures.size, c.side_product-3.ensures.size)
