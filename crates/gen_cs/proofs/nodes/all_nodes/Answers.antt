use Rattle.std.proofs.Common.{rules}
use Rattle.vec_exact.proofs.Ranges.{flat_behind, flat_range_more}
use Rattle.gen_cs.proofs.nodes.all_nodes.Goals as goal

pub loop-a-preserved : goal.loop-a-preserved
loop-a-preserved c = search (rules, flat_behind, flat_range_more)
