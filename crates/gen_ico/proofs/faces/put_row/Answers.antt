use Rattle.std.proofs.Common.{rules}
use Rattle.vec_exact.proofs.Ranges.{flat_behind, flat_range_more}
use Rattle.gen_ico.proofs.faces.put_row.Goals as goal

pub loop-j-preserved : goal.loop-j-preserved
loop-j-preserved c = search (rules, flat_behind, flat_range_more)
