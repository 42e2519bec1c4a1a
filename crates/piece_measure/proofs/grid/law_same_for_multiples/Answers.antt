use Rattle.piece_measure.proofs.Multiples.{same_for_multiples}
use Rattle.piece_measure.proofs.grid.law_same_for_multiples.Goals as goal

pub returns : goal.returns
returns c = same_for_multiples
