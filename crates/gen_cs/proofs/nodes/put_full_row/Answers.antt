use Rattle.std.proofs.Common.{rules}
use Rattle.vec_exact.proofs.Ranges.{flat_behind, flat_range_more}
use Rattle.gen_cs.proofs.nodes.put_full_row.Goals as goal

pub loop-c-preserved : goal.loop-c-preserved
loop-c-preserved c = search (rules, flat_behind, flat_range_more)
