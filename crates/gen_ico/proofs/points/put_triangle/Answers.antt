use Rattle.std.proofs.Common.{rules}
use Rattle.vec_exact.proofs.Ranges.{flat_behind, flat_range_more}
use Rattle.gen_ico.proofs.points.put_triangle.Goals as goal

pub loop-i-preserved : goal.loop-i-preserved
loop-i-preserved c = search (rules, flat_behind, flat_range_more)
