use Rattle.remap_load.proofs.Contents.{one_content, one_refusal, not_both}
use Rattle.map_load.specs.MapFile.{map_kind}
use Rattle.map_load.proofs.OneMap.{map_law, cost_is}
use Rattle.map_load.proofs.laws.law_one_map_file.Goals as goal

pub returns-clause-map : goal.returns-clause-map
returns-clause-map c = one_content map_kind map_law

pub returns-clause-refusal : goal.returns-clause-refusal
returns-clause-refusal c = one_refusal map_kind map_law

pub returns-clause-either : goal.returns-clause-either
returns-clause-either c = not_both map_kind map_law

pub returns-clause-cost : goal.returns-clause-cost
returns-clause-cost c = cost_is
