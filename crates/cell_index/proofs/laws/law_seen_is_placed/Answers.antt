use Rattle.cell_index.proofs.SeenPlaced.{undone}
use Rattle.cell_index.proofs.laws.law_seen_is_placed.Goals as goal

pub returns : goal.returns
returns c = undone
