use Rattle.std.proofs.Common.{subst}
use Rattle.mesh_check.specs.FirstFault.{IsFirstMeshFault}
use Rattle.gen_ico.proofs.One.{one_made}
use Rattle.gen_ico.proofs.make.Goals as goal

pub returns-clause-refused : goal.returns-clause-refused
returns-clause-refused c =
    λ raw fault made first. c.check_generated.ensures.refused fault (subst (λ mesh. IsFirstMeshFault mesh fault) (one_made c.args.n c.args.dual raw c.in_ok-raw.raw made c.in_ok-raw.ensures.mesh) first)
