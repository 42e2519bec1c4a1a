use Rattle.std.proofs.Common.{refl}
use Rattle.piece_measure.proofs.Guess.{node_guess, next_up, stays}
use Rattle.piece_measure.proofs.grid.part_of_node.Goals as goal

pub returns-then-guess-size-clause-value : goal.returns-then-guess-size-clause-value
returns-then-guess-size-clause-value c =
    let g = node_guess c.args.n c.args.size c.args.reciprocal _ c.requires.positive c.requires.limit c.requires.reciprocal c.requires.greatest refl in
    next_up c.args.n c.args.size _ c.requires.positive g.high c.if-guess-size.true

pub returns-else-guess-size-clause-value : goal.returns-else-guess-size-clause-value
returns-else-guess-size-clause-value c =
    let g = node_guess c.args.n c.args.size c.args.reciprocal _ c.requires.positive c.requires.limit c.requires.reciprocal c.requires.greatest refl in
    stays c.args.n c.args.size _ c.requires.positive g.low c.if-guess-size.false
