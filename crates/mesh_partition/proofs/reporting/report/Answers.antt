use Rattle.mesh_partition.proofs.Spheres.{tiling}
use Rattle.mesh_partition.proofs.reporting.report.Goals as goal

pub returns-in-Err-clause-within : goal.returns-in-Err-clause-within
returns-in-Err-clause-within g c = λ n m pairs few e. c.overlap_count.ensures.within n m pairs few (cc (c.in-Err.is, e))

pub returns-clause-tiles : goal.returns-clause-tiles
returns-clause-tiles g c = λ none covered. tiling c.args.mesh.now c.in-Ok.count c.in-Ok.ensures.overlaps none (c.in_ok-covered.ensures.0 covered)
