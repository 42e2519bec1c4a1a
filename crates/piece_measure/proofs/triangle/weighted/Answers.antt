use Rattle.std.proofs.Common.{◌≡◌, ◌<◌, ◌^◌, ℤ, ◌*ℤ◌, unsigned_abs, ap, subst, sym, arith, rules, FitsSigned}
use Rattle.std.proofs.lemmas.Int.{to_z-of_z, fits_signed_from_abs}
use mir.Syntax.{w128}
use Rattle.vec_exact.specs.Vector.{inner}
use Rattle.piece_measure.proofs.Sizes.{weighted_small}
use Rattle.piece_measure.proofs.triangle.weighted.Goals as goal

product : (c : goal.After-dot) → (c.dot.result *ℤ c.args.length) ≡ inner c.args.a c.args.b *ℤ c.args.length
product c = ap (λ (z : ℤ). z *ℤ c.args.length) c.dot.ensures.value

small : (c : goal.After-dot) → unsigned_abs (c.dot.result *ℤ c.args.length) < 2 ^ 87
small c =
    subst (λ (z : ℤ). unsigned_abs z < 2 ^ 87) (sym (product c))
    (weighted_small c.args.a c.args.b c.args.length c.requires.a_size c.requires.b_size c.requires.length_size)

fits : (c : goal.After-dot) → FitsSigned w128 (c.dot.result *ℤ c.args.length)
fits c = fits_signed_from_abs w128 (c.dot.result *ℤ c.args.length) (omega (arith, small c))

pub overflow_mul-result : goal.overflow_mul-result
overflow_mul-result c =
    let d : FitsSigned w128 c.dot.result = search rules in let l : FitsSigned w128 c.args.length = c.ranges.length in
    simp to_z-of_z (fits c)

pub returns-clause-value : goal.returns-clause-value
returns-clause-value c =
    let d : FitsSigned w128 c.dot.result = search rules in let l : FitsSigned w128 c.args.length = c.ranges.length in
    let p = fits c in
    simp to_z-of_z (product c)

pub returns-clause-size : goal.returns-clause-size
returns-clause-size c =
    let d : FitsSigned w128 c.dot.result = search rules in let l : FitsSigned w128 c.args.length = c.ranges.length in
    let p = fits c in
    simp to_z-of_z (small c)
