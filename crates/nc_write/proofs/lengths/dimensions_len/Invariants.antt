use Rattle.std.proofs.Common.{◌≡◌, ◌^◌, min, take, length}
use Rattle.std.specs.List.{flat_map}
use Rattle.nc_write.specs.File.{dimension}
use Rattle.nc_write.proofs.lengths.dimensions_len.Given as goal

abbrev pub invariant-loop-dim : goal.invariant-loop-dim
invariant-loop-dim l = l.sum ≡ min (length (flat_map (dimension l.version) (take l.dim-index l.dims))) (2 ^ 63)
