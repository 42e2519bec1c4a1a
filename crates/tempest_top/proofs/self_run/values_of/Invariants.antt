use Rattle.std.proofs.Common.{◌≡◌, ◌-◌, map}
use Rattle.std.specs.List.{range_with_len}
use Rattle.tempest_top.specs.SelfRuns.{value_of_face}
use Rattle.tempest_top.proofs.self_run.values_of.Given as goal

abbrev pub invariant-loop-face : goal.invariant-loop-face
invariant-loop-face l = l.values.items ≡ map value_of_face (range_with_len 1 (l.face - 1))
