use Rattle.overlap_run.proofs.Unique.{one_overlap}
use Rattle.overlap_run.proofs.laws.law_one_overlap.Goals as goal

pub returns : goal.returns
returns c = one_overlap
