use Rattle.std.proofs.Common.{◌≡◌, ◌≤◌, ℕ, arith, subst}
use Rattle.cover_check.specs.CoveredTargets.{IsCountWithin}
use Rattle.cover_check.proofs.Targets.{IsNext, next_count, next_few}
use Rattle.cover_check.proofs.counting.count_within.Goals as goal

pub loop-j-preserved : goal.loop-j-preserved
loop-j-preserved c =
    let j = c.loop-j.j in
    let e = c.counted-count.ensures in
    let n : IsNext c.args.a.now c.args.b.now c.args.from j c.in_ok-covered.covered c.loop-j.count c.counted-count.result = record {
      one_more = e.one_more;
      same_first = e.same_first;
      same = e.same;
      first = e.first;
      later = e.later;
    } in
    let low : c.args.from ≤ j = omega arith in
    record {
      count = next_count c.args.a.now c.args.b.now c.args.from j c.in_ok-covered.covered c.loop-j.count c.counted-count.result low c.requires.low.0 c.loop-j.invariant.count c.in_ok-covered.ensures n;
      few = next_few c.args.a.now c.args.b.now c.args.from j c.in_ok-covered.covered c.loop-j.count c.counted-count.result c.loop-j.invariant.few n;
    }

pub returns : goal.returns
returns c =
    let last : c.loop-j.j ≡ c.args.end = omega arith in
    subst (λ (j : ℕ). IsCountWithin c.args.a.now c.args.b.now c.args.from j c.loop-j.count) last c.loop-j.invariant.count
