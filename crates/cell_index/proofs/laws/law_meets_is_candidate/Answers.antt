use Rattle.cell_index.proofs.BoxCells.{law_holds}
use Rattle.cell_index.proofs.laws.law_meets_is_candidate.Goals as goal

pub returns : goal.returns
returns c = law_holds
