use Rattle.std.proofs.Common.{arith, FitsSigned, rules}
use Rattle.std.proofs.lemmas.Int.{ints, clamps}
use mir.Syntax.{w32}
use Rattle.cell_index.proofs.spans.pair_extended.Goals as goal

pub returns-clause-minus_least : goal.returns-clause-minus_least
returns-clause-minus_least c =
    let f : FitsSigned w32 c.args.pair.minus.least = search rules in
    omega (arith, ints, clamps, c.extended.ensures.least, c.difference.ensures)

pub returns-clause-minus_greatest : goal.returns-clause-minus_greatest
returns-clause-minus_greatest c =
    let f : FitsSigned w32 c.args.pair.minus.greatest = search rules in
    omega (arith, ints, clamps, c.extended.ensures.greatest, c.difference.ensures)

pub returns-clause-plus_least : goal.returns-clause-plus_least
returns-clause-plus_least c =
    let f : FitsSigned w32 c.args.pair.plus.least = search rules in
    omega (arith, ints, clamps, c.extended-2.ensures.least, c.sum.ensures)

pub returns-clause-plus_greatest : goal.returns-clause-plus_greatest
returns-clause-plus_greatest c =
    let f : FitsSigned w32 c.args.pair.plus.greatest = search rules in
    omega (arith, ints, clamps, c.extended-2.ensures.greatest, c.sum.ensures)
