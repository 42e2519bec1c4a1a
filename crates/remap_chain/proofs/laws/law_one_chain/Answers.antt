use Rattle.remap_chain.proofs.OneField.{one_chain}
use Rattle.remap_chain.proofs.laws.law_one_chain.Goals as goal

pub returns : goal.returns
returns c = one_chain
