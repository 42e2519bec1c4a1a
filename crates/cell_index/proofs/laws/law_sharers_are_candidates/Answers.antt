use Rattle.cell_index.proofs.Agree.{sharers}
use Rattle.cell_index.proofs.laws.law_sharers_are_candidates.Goals as goal

pub returns : goal.returns
returns c = sharers
