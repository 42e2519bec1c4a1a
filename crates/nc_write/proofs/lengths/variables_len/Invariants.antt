use Rattle.std.proofs.Common.{◌≡◌, ◌^◌, min, take, length}
use Rattle.std.specs.List.{sum_by}
use Rattle.nc_write.specs.File.{variable}
use Rattle.nc_write.proofs.lengths.variables_len.Given as goal

abbrev pub invariant-loop-var : goal.invariant-loop-var
invariant-loop-var l = l.sum ≡ min (sum_by (λ v. length (variable l.doc 0 v)) (take l.var-index l.doc.vars)) (2 ^ 63)
