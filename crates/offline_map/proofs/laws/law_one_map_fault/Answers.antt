use Rattle.offline_map.proofs.FirstFaults.{one_map_fault}
use Rattle.offline_map.proofs.laws.law_one_map_fault.Goals as goal

pub returns : goal.returns
returns c = one_map_fault
