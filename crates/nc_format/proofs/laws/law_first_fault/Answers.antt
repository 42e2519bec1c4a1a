use Rattle.nc_format.proofs.Prefix.{fault_iff, none_iff, one_header}
use Rattle.nc_format.proofs.SoundParts.{header_is_sound}
use Rattle.nc_format.proofs.laws.law_first_fault.Goals as goal

pub returns-clause-fault : goal.returns-clause-fault
returns-clause-fault c = fault_iff

pub returns-clause-header : goal.returns-clause-header
returns-clause-header c = none_iff

pub returns-clause-one : goal.returns-clause-one
returns-clause-one c = one_header

pub returns-clause-sound : goal.returns-clause-sound
returns-clause-sound c = header_is_sound
