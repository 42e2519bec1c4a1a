use Rattle.cell_index.proofs.CandidateLists.{candidates_listed}
use Rattle.cell_index.proofs.laws.law_candidates_of.Goals as goal

pub returns : goal.returns
returns c = candidates_listed
