use Rattle.tempest_top.proofs.Outcomes.{one_outcome}
use Rattle.tempest_top.proofs.laws.law_one_outcome.Goals as goal

pub returns : goal.returns
returns c = one_outcome
