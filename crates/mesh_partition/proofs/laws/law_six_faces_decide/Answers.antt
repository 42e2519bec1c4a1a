use Rattle.mesh_partition.proofs.Spheres.{six_faces_decide}
use Rattle.mesh_partition.proofs.laws.law_six_faces_decide.Goals as goal

pub returns : goal.returns
returns c = six_faces_decide
