use Rattle.std.proofs.Common.{◌-◌, length}
use Rattle.map_rows.specs.Application.{whole_of}
use Rattle.apply_map.proofs.Parts.{numbers, SoFar}
use Rattle.apply_map.proofs.targets.Targets.put_target_wholes.Given as goal

abbrev pub invariant-loop-at : goal.invariant-loop-at
invariant-loop-at l = SoFar l.self.n_b (numbers whole_of l.self l.slices l.values) l.from l.j l.slice l.at l.fn.into l.into

abbrev pub decreases-loop-at : goal.decreases-loop-at
decreases-loop-at l = length l.into - l.at
