use Rattle.std.proofs.Common.{pos, ◌≤ℤ◌, ℤ, take, All}
use Rattle.offline_map.proofs.areas.check_covered.Given as goal

abbrev pub invariant-loop-j : goal.invariant-loop-j
invariant-loop-j l = All (λ (area : ℤ). pos 1 ≤ℤ area) (take l.j l.areas)
