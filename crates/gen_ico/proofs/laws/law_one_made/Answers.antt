use Rattle.gen_ico.proofs.One.{one_made}
use Rattle.gen_ico.proofs.laws.law_one_made.Goals as goal

pub returns : goal.returns
returns c = one_made
