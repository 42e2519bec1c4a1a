use Rattle.mesh_partition.proofs.OneReport.{one_mesh_report}
use Rattle.mesh_partition.proofs.laws.law_one_mesh_report.Goals as goal

pub returns : goal.returns
returns c = one_mesh_report
