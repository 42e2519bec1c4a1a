use Rattle.std.proofs.Common.{rules}
use Rattle.vec_exact.proofs.Ranges.{flat_behind, flat_range_more}
use Rattle.gen_cs.proofs.nodes.put_slice.Goals as goal

pub loop-b-preserved : goal.loop-b-preserved
loop-b-preserved c = search (rules, flat_behind, flat_range_more)
