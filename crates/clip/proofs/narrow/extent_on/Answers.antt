use Rattle.std.proofs.Common.{arith, below_more}
use Rattle.std.proofs.lemmas.Int.{ints, clamps}
use Rattle.clip.proofs.narrow.extent_on.Goals as goal

pub loop-t-preserved : goal.loop-t-preserved
loop-t-preserved c = record {
  least = below_more _ _ (λ u h. omega (arith, ints, clamps, c.loop-t.invariant.least u h, c.min-least.ensures)) (omega (arith, ints, clamps, c.min-least.ensures, c.narrow_dot-side.ensures.value));
  greatest = below_more _ _ (λ u h. omega (arith, ints, clamps, c.loop-t.invariant.greatest u h, c.max-greatest.ensures)) (omega (arith, ints, clamps, c.max-greatest.ensures, c.narrow_dot-side.ensures.value));
}
