use Rattle.mesh_partition.proofs.PairCounts.{overlap_count_is}
use Rattle.mesh_partition.proofs.overlaps.overlap_count.Goals as goal

pub returns-in-Ok-clause-overlaps : goal.returns-in-Ok-clause-overlaps
returns-in-Ok-clause-overlaps g c =
    let (o, overlap, sound, held) = c.in-Ok.ensures.overlap in
    overlap_count_is c.args.mesh.now o.pieces c.in-Ok.pairs.count overlap.pairs held

pub returns-in-Err-clause-within : goal.returns-in-Err-clause-within
returns-in-Err-clause-within g c = λ n m pairs few e. c.counted.ensures.within n m pairs few (cc (c.in-Err.is, e))
