use Rattle.remap_load.proofs.Contents.{one_content, one_refusal, not_both}
use Rattle.data_load.specs.DataFile.{data_kind}
use Rattle.data_load.proofs.OneData.{data_law, cost_is, field_of_data}
use Rattle.data_load.proofs.laws.law_one_data_file.Goals as goal

pub returns-clause-variable : goal.returns-clause-variable
returns-clause-variable c = λ m name var. one_content (data_kind var) (data_law var) m name

pub returns-clause-refusal : goal.returns-clause-refusal
returns-clause-refusal c = λ m name var. one_refusal (data_kind var) (data_law var) m name

pub returns-clause-either : goal.returns-clause-either
returns-clause-either c = λ m name var. not_both (data_kind var) (data_law var) m name

pub returns-clause-cost : goal.returns-clause-cost
returns-clause-cost c = cost_is

pub returns-clause-field : goal.returns-clause-field
returns-clause-field c = field_of_data
