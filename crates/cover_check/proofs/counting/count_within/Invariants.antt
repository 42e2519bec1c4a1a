use Rattle.std.proofs.Common.{◌≤◌, ◌+◌}
use Rattle.cover_check.specs.CoveredTargets.{IsCountWithin}
use Rattle.cover_check.proofs.counting.count_within.Given as goal

abbrev pub invariant-loop-j : goal.invariant-loop-j
invariant-loop-j l = record {
  count : IsCountWithin l.a l.b l.from l.j l.count;
  few : l.count.covered + l.from ≤ l.j;
}
