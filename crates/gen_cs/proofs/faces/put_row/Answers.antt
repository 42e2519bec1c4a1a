use Rattle.std.proofs.Common.{rules}
use Rattle.vec_exact.proofs.Ranges.{map_behind}
use Rattle.gen_cs.proofs.faces.put_row.Goals as goal

pub loop-i-preserved : goal.loop-i-preserved
loop-i-preserved c = search (rules, map_behind)
