use Rattle.tempest_top.proofs.FieldSteps.{field_after_map}
use Rattle.tempest_top.proofs.laws.law_three_commands.Goals as goal

pub returns : goal.returns
returns c = field_after_map
