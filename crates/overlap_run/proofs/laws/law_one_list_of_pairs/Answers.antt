use Rattle.overlap_run.proofs.Unique.{one_list_of_pairs}
use Rattle.overlap_run.proofs.laws.law_one_list_of_pairs.Goals as goal

pub returns : goal.returns
returns c = one_list_of_pairs
