use Rattle.std.proofs.Common.{arith}
use Rattle.std.proofs.lemmas.Int.{ints}
use Rattle.vec_exact.proofs.Terms.{vec_eq}
use Rattle.cover_cells.proofs.inner.sum_of_corners.Goals as goal

pub returns-clause-value : goal.returns-clause-value
returns-clause-value c = vec_eq _ _ (omega (arith, ints, c.sum_of.ensures.value)) (omega (arith, ints, c.sum_of-2.ensures.value)) (omega (arith, ints, c.sum_of-3.ensures.value))
