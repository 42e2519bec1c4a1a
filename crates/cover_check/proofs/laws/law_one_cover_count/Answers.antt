use Rattle.cover_check.proofs.OneCount.{one_cover_count}
use Rattle.cover_check.proofs.laws.law_one_cover_count.Goals as goal

pub returns : goal.returns
returns c = one_cover_count
