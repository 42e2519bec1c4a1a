use Rattle.nc_format.proofs.Prefix.{prefix_header, prefix_fault}
use Rattle.nc_format.proofs.laws.law_prefix.Goals as goal

pub returns-clause-header : goal.returns-clause-header
returns-clause-header c = prefix_header

pub returns-clause-fault : goal.returns-clause-fault
returns-clause-fault c = prefix_fault
