use Rattle.remap_load.proofs.Contents.{one_content, one_refusal, not_both}
use Rattle.overlap_load.specs.OverlapFile.{overlap_kind}
use Rattle.overlap_load.proofs.OneOverlap.{overlap_law, cost_is}
use Rattle.overlap_load.proofs.laws.law_one_overlap_file.Goals as goal

pub returns-clause-overlap : goal.returns-clause-overlap
returns-clause-overlap c = one_content overlap_kind overlap_law

pub returns-clause-refusal : goal.returns-clause-refusal
returns-clause-refusal c = one_refusal overlap_kind overlap_law

pub returns-clause-either : goal.returns-clause-either
returns-clause-either c = not_both overlap_kind overlap_law

pub returns-clause-cost : goal.returns-clause-cost
returns-clause-cost c = cost_is
