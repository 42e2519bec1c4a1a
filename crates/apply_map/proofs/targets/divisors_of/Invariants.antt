use Rattle.std.proofs.Common.{◌≡◌, take}
use Rattle.apply_map.specs.Ready.{areas_of}
use Rattle.apply_map.proofs.targets.divisors_of.Given as goal

abbrev pub invariant-loop-area : goal.invariant-loop-area
invariant-loop-area l = areas_of l.divisors.items ≡ take l.area-index l.areas
