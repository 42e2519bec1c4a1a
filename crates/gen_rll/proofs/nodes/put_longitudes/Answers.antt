use Rattle.std.proofs.Common.{rules}
use Rattle.gen_rll.proofs.Ranges.{map_behind}
use Rattle.gen_rll.proofs.nodes.put_longitudes.Goals as goal

pub loop-k-preserved : goal.loop-k-preserved
loop-k-preserved c = search (rules, map_behind)
