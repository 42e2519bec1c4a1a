use Rattle.std.proofs.Common.{rules}
use Rattle.vec_exact.proofs.Ranges.{map_behind}
use Rattle.gen_ico.proofs.faces.put_numbers.Goals as goal

pub loop-j-preserved : goal.loop-j-preserved
loop-j-preserved c = search (rules, map_behind)
