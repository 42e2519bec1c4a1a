use Rattle.std.proofs.Common.{◌≡◌, ◌^◌, min, take}
use Rattle.std.specs.List.{sum_by}
use Rattle.nc_write.specs.File.{fixed_len}
use Rattle.nc_write.proofs.sizes.fixed_total.Given as goal

abbrev pub invariant-loop-var : goal.invariant-loop-var
invariant-loop-var l = l.total ≡ min (sum_by (fixed_len l.doc) (take l.var-index l.doc.vars)) (2 ^ 63)
