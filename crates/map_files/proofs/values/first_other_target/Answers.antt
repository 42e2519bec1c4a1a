use Rattle.std.proofs.Common.{length, ◌∙◌, sym, arith}
use Rattle.map_files.specs.MapValues.{is_sum_of_some}
use Rattle.exodus_mesh.proofs.FirstNot.{first_is, none_is, one_more_good}
use Rattle.map_files.proofs.values.first_other_target.Goals as goal

pub loop-k-init : goal.loop-k-init
loop-k-init c k below = absurd (omega (arith, below))

pub returns-then-not-is_sum_of_some-clause-first : goal.returns-then-not-is_sum_of_some-clause-first
returns-then-not-is_sum_of_some-clause-first c =
    sym (first_is (is_sum_of_some c.args.areas.now c.args.sums.now) (length c.args.areas.now) c.loop-k.k c.loop-k-test.true c.loop-k.invariant (sym c.is_sum_of_some.ensures ∙ c.if-not-is_sum_of_some.true))

pub loop-k-preserved : goal.loop-k-preserved
loop-k-preserved c = one_more_good (is_sum_of_some c.args.areas.now c.args.sums.now) c.loop-k.k c.loop-k.invariant (sym c.is_sum_of_some.ensures ∙ c.if-not-is_sum_of_some.false)

pub returns-clause-first : goal.returns-clause-first
returns-clause-first c =
    sym (none_is (is_sum_of_some c.args.areas.now c.args.sums.now) (length c.args.areas.now) (λ k below. c.loop-k.invariant k (omega (arith, below, c.loop-k-test.false))))
