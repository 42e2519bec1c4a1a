use Rattle.std.proofs.Common.{◌≡◌, ◌++◌, take}
use Rattle.std.specs.List.{flat_map}
use Rattle.nc_write.specs.File.{dimension}
use Rattle.nc_write.proofs.spell.put_dimensions.Given as goal

abbrev pub invariant-loop-dim : goal.invariant-loop-dim
invariant-loop-dim l = l.out.items ≡ l.initial.out.items ++ flat_map (dimension l.version) (take l.dim-index l.dims)
