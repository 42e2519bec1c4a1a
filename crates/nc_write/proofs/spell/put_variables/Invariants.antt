use Rattle.std.proofs.Common.{◌≡◌, ◌+◌, ◌++◌, take, drop}
use Rattle.std.specs.List.{sum_by}
use Rattle.nc_write.specs.File.{variables, fixed_len, first_len, fixed_total}
use Rattle.nc_write.proofs.spell.put_variables.Given as goal

abbrev pub invariant-loop-var : goal.invariant-loop-var
invariant-loop-var l = record {
  spelt : l.out.items ++ variables l.doc l.fixed l.record_place (drop l.var-index l.doc.vars) ≡ l.initial.out.items ++ variables l.doc l.fn.begin (l.fn.begin + fixed_total l.doc) l.doc.vars;
  fixed : l.fixed ≡ l.fn.begin + sum_by (fixed_len l.doc) (take l.var-index l.doc.vars);
  record_place : l.record_place ≡ l.fn.begin + fixed_total l.doc + sum_by (first_len l.doc) (take l.var-index l.doc.vars);
}
