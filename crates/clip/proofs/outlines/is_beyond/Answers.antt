use Rattle.std.proofs.Common.{arith, below_more}
use Rattle.std.proofs.lemmas.Int.{ints}
use Rattle.clip.proofs.outlines.is_beyond.Goals as goal

pub loop-s-preserved : goal.loop-s-preserved
loop-s-preserved c = below_more _ _ c.loop-s.invariant (omega (arith, ints, c.narrow_dot.ensures.value))
