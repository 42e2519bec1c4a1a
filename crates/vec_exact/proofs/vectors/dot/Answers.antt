use Rattle.std.proofs.Common.{◌<◌, ◌^◌, unsigned_abs, ℤ, arith, FitsSigned, rules, sym, subst}
use Rattle.std.proofs.lemmas.Int.{to_z-of_z}
use mir.Syntax.{w128}
use Rattle.vec_exact.proofs.Bounds.{small_products, inner_below, read_three}
use Rattle.vec_exact.proofs.Bits.{sum_fits, sum_fits_3}
use Rattle.vec_exact.proofs.vectors.dot.Goals as goal

pub product-requires-2 : goal.product-requires-2
product-requires-2 c =
    let a : FitsSigned w128 c.args.a.y = search rules in let b : FitsSigned w128 c.args.b.y = search rules in
    simp to_z-of_z (omega (arith, (small_products c.args.a c.args.b c.requires).y))

pub product-requires-3 : goal.product-requires-3
product-requires-3 c =
    let a : FitsSigned w128 c.args.a.z = search rules in let b : FitsSigned w128 c.args.b.z = search rules in
    simp to_z-of_z (omega (arith, (small_products c.args.a c.args.b c.requires).z))

pub product-requires : goal.product-requires
product-requires c =
    let a : FitsSigned w128 c.args.a.x = search rules in let b : FitsSigned w128 c.args.b.x = search rules in
    simp to_z-of_z (omega (arith, (small_products c.args.a c.args.b c.requires).x))

pub overflow_add-result : goal.overflow_add-result
overflow_add-result c = sum_fits c.product.result c.product-2.result c.product.ensures.size c.product-2.ensures.size

pub overflow_add-result-2 : goal.overflow_add-result-2
overflow_add-result-2 c = sum_fits_3 c.product.result c.product-2.result c.product-3.result c.product.ensures.size c.product-2.ensures.size c.product-3.ensures.size

pub returns-clause-value : goal.returns-clause-value
returns-clause-value c =
    let ax : FitsSigned w128 c.args.a.x = search rules in let bx : FitsSigned w128 c.args.b.x = search rules in
    let ay : FitsSigned w128 c.args.a.y = search rules in let by : FitsSigned w128 c.args.b.y = search rules in
    let az : FitsSigned w128 c.args.a.z = search rules in let bz : FitsSigned w128 c.args.b.z = search rules in
    let x = simp to_z-of_z at c.product.ensures.value in let y = simp to_z-of_z at c.product-2.ensures.value in let z = simp to_z-of_z at c.product-3.ensures.value in
    cc (read_three c.product.result c.product-2.result c.product-3.result c.product.ensures.size c.product-2.ensures.size c.product-3.ensures.size, x, y, z)

pub returns-clause-size : goal.returns-clause-size
returns-clause-size c = subst (λ (z : ℤ). unsigned_abs z < 2 ^ 114) (sym (returns-clause-value c)) (inner_below c.args.a c.args.b c.requires)
