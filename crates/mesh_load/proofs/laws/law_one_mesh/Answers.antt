use Rattle.remap_load.proofs.Contents.{one_content, one_refusal, not_both}
use Rattle.mesh_load.specs.MeshFile.{mesh_kind}
use Rattle.mesh_load.proofs.OneMesh.{mesh_law, cost_is}
use Rattle.mesh_load.proofs.laws.law_one_mesh.Goals as goal

pub returns-clause-mesh : goal.returns-clause-mesh
returns-clause-mesh c = one_content mesh_kind mesh_law

pub returns-clause-refusal : goal.returns-clause-refusal
returns-clause-refusal c = one_refusal mesh_kind mesh_law

pub returns-clause-either : goal.returns-clause-either
returns-clause-either c = not_both mesh_kind mesh_law

pub returns-clause-cost : goal.returns-clause-cost
returns-clause-cost c = cost_is
