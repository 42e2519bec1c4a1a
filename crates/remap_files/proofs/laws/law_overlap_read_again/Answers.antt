use Rattle.remap_files.proofs.OverlapAgain.{read_again}
use Rattle.remap_files.proofs.laws.law_overlap_read_again.Goals as goal

pub returns : goal.returns
returns c = read_again
