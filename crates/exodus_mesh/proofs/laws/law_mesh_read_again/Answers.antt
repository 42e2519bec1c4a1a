use Rattle.exodus_mesh.proofs.ReadAgain.{read_again}
use Rattle.exodus_mesh.proofs.laws.law_mesh_read_again.Goals as goal

pub returns : goal.returns
returns c = read_again
