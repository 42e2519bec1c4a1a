use Rattle.std.proofs.Common.{ℤ, pos, ◌≤ℤ◌, List, All, arith, subst}
use Rattle.std.proofs.lemmas.Int.{ints}
use Rattle.std.proofs.lemmas.List.{take_all}
use Rattle.std.proofs.lemmas.List.Elements.{All-more}
use Rattle.offline_map.proofs.areas.check_covered.Goals as goal

pub loop-j-preserved : goal.loop-j-preserved
loop-j-preserved c =
    let areas = c.args.areas.now in
    All-more (λ (area : ℤ). pos 1 ≤ℤ area) areas c.loop-j.j (pos 0) (omega arith) c.loop-j.invariant (omega (arith, ints))

pub returns-clause-covered : goal.returns-clause-covered
returns-clause-covered c =
    let areas = c.args.areas.now in
    subst (λ (xs : List ℤ). All (λ (area : ℤ). pos 1 ≤ℤ area) xs) (take_all c.loop-j.j areas (omega arith)) c.loop-j.invariant
