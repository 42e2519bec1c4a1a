use Rattle.std.proofs.Common.{◌≡◌, ◌++◌, ◌-◌}
use Rattle.gen_ico.specs.Dual.{faces_from}
use Rattle.gen_ico.proofs.round.put_others.Given as goal

abbrev pub invariant-loop-step : goal.invariant-loop-step
invariant-loop-step l = l.out.items ++ faces_from l.faces l.p l.first l.h (16 - l.step) ≡ l.fn.out.items ++ faces_from l.faces l.p l.first l.fn.h 16
