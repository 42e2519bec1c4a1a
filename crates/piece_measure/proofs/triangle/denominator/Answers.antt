use Rattle.std.proofs.Common.{◌∙◌, ◌<◌, ◌^◌, ℕ, pos, ◌+ℤ◌, unsigned_abs, ap, sym, subst, arith, rules, FitsSigned}
use Rattle.std.proofs.lemmas.Int.{to_z-of_z}
use mir.Syntax.{w128}
use Rattle.piece_measure.proofs.Sizes.{sums_fit, raised_small}
use Rattle.piece_measure.proofs.Denominator.{denominator_is}
use Rattle.piece_measure.proofs.triangle.denominator.Goals as goal

pub overflow_add-sum-2 : goal.overflow_add-sum-2
overflow_add-sum-2 c =
    let fp : FitsSigned w128 c.product.result = search rules in let fq : FitsSigned w128 c.weighted.result = search rules in
    let fr : FitsSigned w128 c.weighted-2.result = search rules in
    let sums =
    sums_fit c.product.result c.weighted.result c.weighted-2.result (pos 0) c.product.ensures.size c.weighted.ensures.size c.weighted-2.ensures.size
    (omega arith) in
    let two = sums.two in
    simp to_z-of_z sums.three

pub overflow_add-sum-3 : goal.overflow_add-sum-3
overflow_add-sum-3 c =
    let fp : FitsSigned w128 c.product.result = search rules in let fq : FitsSigned w128 c.weighted.result = search rules in
    let fr : FitsSigned w128 c.weighted-2.result = search rules in let fs : FitsSigned w128 c.weighted-3.result = search rules in
    let sums =
    sums_fit c.product.result c.weighted.result c.weighted-2.result c.weighted-3.result c.product.ensures.size c.weighted.ensures.size
    c.weighted-2.ensures.size c.weighted-3.ensures.size in
    let two = sums.two in let three = sums.three in
    simp to_z-of_z sums.four

pub returns-clause-value : goal.returns-clause-value
returns-clause-value c =
    let a = c.args.a in let b = c.args.b in let d = c.args.c in
    let fa : FitsSigned w128 a.length = search rules in let fb : FitsSigned w128 b.length = search rules in let fd : FitsSigned w128 d.length = search rules in
    let fp : FitsSigned w128 c.product.result = search rules in let fq : FitsSigned w128 c.weighted.result = search rules in
    let fr : FitsSigned w128 c.weighted-2.result = search rules in let fs : FitsSigned w128 c.weighted-3.result = search rules in
    let fm : FitsSigned w128 c.max.result = search rules in
    let sums =
    sums_fit c.product.result c.weighted.result c.weighted-2.result c.weighted-3.result c.product.ensures.size c.weighted.ensures.size
    c.weighted-2.ensures.size c.weighted-3.ensures.size in
    let two = sums.two in let three = sums.three in let four = sums.four in
    let p = simp to_z-of_z at c.product.ensures.value in let q = simp to_z-of_z at c.weighted.ensures.value in
    let r = simp to_z-of_z at c.weighted-2.ensures.value in let s = simp to_z-of_z at c.weighted-3.ensures.value in
    simp to_z-of_z at c.unsigned_abs.ensures.value
    ∙ ap unsigned_abs (simp to_z-of_z at c.max.ensures.value)
    ∙ denominator_is a.place b.place d.place a.length b.length d.length _ _ _ _ c.requires.a.length c.requires.b.length c.requires.c.length p q r s

pub returns-clause-limit : goal.returns-clause-limit
returns-clause-limit c =
    let fp : FitsSigned w128 c.product.result = search rules in let fq : FitsSigned w128 c.weighted.result = search rules in
    let fr : FitsSigned w128 c.weighted-2.result = search rules in let fs : FitsSigned w128 c.weighted-3.result = search rules in
    let fm : FitsSigned w128 c.max.result = search rules in
    let sums =
    sums_fit c.product.result c.weighted.result c.weighted-2.result c.weighted-3.result c.product.ensures.size c.weighted.ensures.size
    c.weighted-2.ensures.size c.weighted-3.ensures.size in
    let two = sums.two in let three = sums.three in let four = sums.four in
    let e = simp to_z-of_z at c.unsigned_abs.ensures.value ∙ ap unsigned_abs (simp to_z-of_z at c.max.ensures.value) in
    subst (λ (n : ℕ). n < 2 ^ 90) (sym e) (raised_small (c.product.result +ℤ c.weighted.result +ℤ c.weighted-2.result +ℤ c.weighted-3.result) sums.small)
