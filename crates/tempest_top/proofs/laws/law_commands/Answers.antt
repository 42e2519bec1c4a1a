use Rattle.tempest_top.proofs.CommandSteps.{map_after_overlap}
use Rattle.tempest_top.proofs.laws.law_commands.Goals as goal

pub returns : goal.returns
returns c = map_after_overlap
