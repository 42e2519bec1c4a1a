use Rattle.std.proofs.Common.{◌≡◌, ◌++◌, take, drop, map}
use Rattle.nc_format.specs.Placing.{placed, step_from, is_outside}
use Rattle.std.specs.List.{position_from}
use Rattle.nc_format.proofs.placing.place_all.Given as goal

abbrev pub invariant-loop-number : goal.invariant-loop-number
invariant-loop-number l = record {
  vars : l.vars ≡ map (placed l.records l.dims (step_from l.dims l.fn.vars)) (take l.number l.fn.vars) ++ drop l.number l.fn.vars;
  so_far : position_from (is_outside l.len) l.number (map (placed l.records l.dims (step_from l.dims l.fn.vars)) (drop l.number l.fn.vars)) ≡ position_from (is_outside l.len) 0 (map (placed l.records l.dims (step_from l.dims l.fn.vars)) l.fn.vars);
}
