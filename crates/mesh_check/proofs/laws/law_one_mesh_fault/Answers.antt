use Rattle.mesh_check.proofs.FirstFaults.{no_first_fault, same_first_fault}
use Rattle.mesh_check.proofs.laws.law_one_mesh_fault.Goals as goal

pub returns : goal.returns
returns c = λ raw. record { same = same_first_fault raw; none = no_first_fault raw }
