use Rattle.nc_format.proofs.Inside.{doc_header, is_of_doc}
use Rattle.nc_format.proofs.Gathered.{doc_values}
use Rattle.nc_format.proofs.laws.law_written.Goals as goal

pub returns-clause-header : goal.returns-clause-header
returns-clause-header c = doc_header

pub returns-clause-fields : goal.returns-clause-fields
returns-clause-fields c = is_of_doc

pub returns-clause-values : goal.returns-clause-values
returns-clause-values c = doc_values
