use Rattle.std.proofs.Common.{◌≡◌, ◌^◌, min, take}
use Rattle.std.specs.List.{sum_by}
use Rattle.nc_write.specs.File.{record_len}
use Rattle.nc_write.proofs.sizes.step.Given as goal

abbrev pub invariant-loop-var : goal.invariant-loop-var
invariant-loop-var l = l.step ≡ min (sum_by (record_len l.doc) (take l.var-index l.doc.vars)) (2 ^ 63)
