use Rattle.cone_laws.proofs.FaceEdges.{law_local_to_global_holds}
use Rattle.cone_laws.proofs.law_local_to_global.Goals as goal

pub returns : goal.returns
returns c = law_local_to_global_holds
