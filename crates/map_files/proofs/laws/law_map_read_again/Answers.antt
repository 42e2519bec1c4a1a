use Rattle.map_files.proofs.MapAgain.{map_again}
use Rattle.map_files.proofs.laws.law_map_read_again.Goals as goal

pub returns : goal.returns
returns c = map_again
