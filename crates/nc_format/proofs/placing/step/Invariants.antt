use Rattle.std.proofs.Common.{◌≡◌, ◌^◌, min, take}
use Rattle.std.specs.List.{sum_by}
use Rattle.nc_write.specs.Extents.{share_of}
use Rattle.nc_format.specs.Placing.{is_record_var, var_piece_len}
use Rattle.nc_format.proofs.placing.step.Given as goal

abbrev pub invariant-loop-var : goal.invariant-loop-var
invariant-loop-var l =
    l.step ≡ min (sum_by (λ v. share_of l.several (is_record_var l.dims v) (var_piece_len l.dims v)) (take l.var-index l.vars)) (2 ^ 63)
