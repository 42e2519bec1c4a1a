use Rattle.std.proofs.Common.{◌<◌, ◌^◌, ◌*ℤ◌, ℤ, unsigned_abs, FitsSigned, sym, subst}
use Rattle.std.proofs.lemmas.Int.{to_z-of_z}
use mir.Syntax.{w128}
use Rattle.vec_exact.proofs.Bits.{product_below, product_fits}
use Rattle.vec_exact.proofs.vectors.product.Goals as goal

pub overflow_mul-result : goal.overflow_mul-result
overflow_mul-result c =
    let a = c.ranges.a in let b = c.ranges.b in
    simp to_z-of_z (product_fits c.args.a c.args.b c.requires)

pub returns-clause-value : goal.returns-clause-value
returns-clause-value c =
    let a = c.ranges.a in let b = c.ranges.b in
    let f : FitsSigned w128 (c.args.a *ℤ c.args.b) = product_fits c.args.a c.args.b c.requires in
    simp to_z-of_z

pub returns-clause-size : goal.returns-clause-size
returns-clause-size c = subst (λ (z : ℤ). unsigned_abs z < 2 ^ 115) (sym (returns-clause-value c)) (product_below c.args.a c.args.b c.requires)
