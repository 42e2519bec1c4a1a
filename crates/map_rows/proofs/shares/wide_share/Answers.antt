use Rattle.std.proofs.Common.{rules, ◌≡◌, ◌∙◌, ap, sym, subst, ℤ, FitsSigned}
use Rattle.std.specs.Int.{int_div_euclid}
use mir.Syntax.{w64}
use mir.Val.{to_z, of_z}
use Rattle.map_rows.proofs.Floors.{rest_is, rest_size, kept_rest}
use Rattle.map_rows.proofs.shares.wide_share.Goals as goal

pub overflow_cast-result-2 : goal.overflow_cast-result-2
overflow_cast-result-2 c =
    let n = c.args.sum in
    let a = c.args.area in
    let area : c.from-area.result ≡ a = search rules in
    let whole : c.div_euclid-whole.result ≡ int_div_euclid n a = search rules in
    subst (λ (x : ℤ). FitsSigned w64 x) (sym (rest_is n a c.from-area.result c.div_euclid-whole.result c.requires.area c.requires.least c.requires.greatest c.ranges.area area whole)) (rest_size n a c.requires.area c.ranges.area)

pub returns-clause-rest : goal.returns-clause-rest
returns-clause-rest c =
    let n = c.args.sum in
    let a = c.args.area in
    let area : c.from-area.result ≡ a = search rules in
    let whole : c.div_euclid-whole.result ≡ int_div_euclid n a = search rules in
    ap (λ (x : ℤ). to_z w64 (of_z w64 x)) (rest_is n a c.from-area.result c.div_euclid-whole.result c.requires.area c.requires.least c.requires.greatest c.ranges.area area whole)
    ∙ kept_rest n a c.requires.area c.ranges.area
