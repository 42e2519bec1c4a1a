use Rattle.std.proofs.Common.{arith, refl, rules}
use Rattle.piece_measure.proofs.Guess.{guess, test_below, next_up, stays}
use Rattle.piece_measure.proofs.grid.part_of_grid.Goals as goal

pub overflow_mul-guess-3 : goal.overflow_mul-guess-3
overflow_mul-guess-3 c =
    let g = guess c.args.n c.args.size c.args.places c.args.reciprocal _ c.requires.scale c.requires.greatest refl in
    let below = test_below c.args.n c.args.size _ g c.requires.limit in
    search (rules, below)

pub overflow_cast-result-else-guess-size : goal.overflow_cast-result-else-guess-size
overflow_cast-result-else-guess-size c =
    let g = guess c.args.n c.args.size c.args.places c.args.reciprocal _ c.requires.scale c.requires.greatest refl in
    omega (arith, g.small)

pub returns-then-guess-size-clause-value : goal.returns-then-guess-size-clause-value
returns-then-guess-size-clause-value c =
    let g = guess c.args.n c.args.size c.args.places c.args.reciprocal _ c.requires.scale c.requires.greatest refl in
    next_up c.args.n c.args.size _ c.requires.positive g.high c.if-guess-size.true

pub returns-else-guess-size-clause-value : goal.returns-else-guess-size-clause-value
returns-else-guess-size-clause-value c =
    let g = guess c.args.n c.args.size c.args.places c.args.reciprocal _ c.requires.scale c.requires.greatest refl in
    stays c.args.n c.args.size _ c.requires.positive g.low c.if-guess-size.false

pub returns-else-guess-size-clause-size : goal.returns-else-guess-size-clause-size
returns-else-guess-size-clause-size c =
    let g = guess c.args.n c.args.size c.args.places c.args.reciprocal _ c.requires.scale c.requires.greatest refl in
    omega (arith, g.small)
