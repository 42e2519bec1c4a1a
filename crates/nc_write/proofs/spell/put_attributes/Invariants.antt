use Rattle.std.proofs.Common.{◌≡◌, ◌++◌, take}
use Rattle.std.specs.List.{flat_map}
use Rattle.nc_write.specs.File.{attribute}
use Rattle.nc_write.proofs.spell.put_attributes.Given as goal

abbrev pub invariant-loop-att : goal.invariant-loop-att
invariant-loop-att l = l.out.items ≡ l.initial.out.items ++ flat_map (attribute l.version) (take l.att-index l.atts)
