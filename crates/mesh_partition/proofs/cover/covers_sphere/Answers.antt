use Rattle.mesh_partition.proofs.Spheres.{first_decides}
use Rattle.mesh_partition.proofs.cover.covers_sphere.Goals as goal

pub returns : goal.returns
returns c = first_decides c.args.mesh.now c.in_ok-cube.cube c.in_ok-count.count c.in_ok-cube.ensures c.in_ok-count.ensures
