use Rattle.nc_format.proofs.Cut.{cut_magic, cut_header, cut_data}
use Rattle.nc_format.proofs.laws.law_cut.Goals as goal

pub returns-clause-magic : goal.returns-clause-magic
returns-clause-magic c = cut_magic

pub returns-clause-header : goal.returns-clause-header
returns-clause-header c = cut_header

pub returns-clause-data : goal.returns-clause-data
returns-clause-data c = cut_data
