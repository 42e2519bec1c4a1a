use Rattle.map_rows.specs.Application.{rest_of}
use Rattle.apply_map.proofs.Parts.{numbers, TargetsSoFar}
use Rattle.apply_map.proofs.numbers.put_rests.Given as goal

abbrev pub invariant-loop-j : goal.invariant-loop-j
invariant-loop-j l = TargetsSoFar l.targets.n_b (numbers rest_of l.targets l.slices l.values) l.from l.j l.fn.into l.into
