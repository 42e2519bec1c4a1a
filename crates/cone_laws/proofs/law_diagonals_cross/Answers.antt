use Rattle.cone_laws.proofs.Diagonals.{diagonals_identity, diagonals_cross}
use Rattle.cone_laws.proofs.law_diagonals_cross.Goals as goal

pub returns-clause-identity : goal.returns-clause-identity
returns-clause-identity c = diagonals_identity

pub returns-clause-crossing : goal.returns-clause-crossing
returns-clause-crossing c = diagonals_cross
