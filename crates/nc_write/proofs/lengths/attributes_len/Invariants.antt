use Rattle.std.proofs.Common.{◌≡◌, ◌^◌, min, take, length}
use Rattle.std.specs.List.{flat_map}
use Rattle.nc_write.specs.File.{attribute}
use Rattle.nc_write.proofs.lengths.attributes_len.Given as goal

abbrev pub invariant-loop-att : goal.invariant-loop-att
invariant-loop-att l = l.sum ≡ min (length (flat_map (attribute l.version) (take l.att-index l.atts))) (2 ^ 63)
