use Rattle.std.proofs.Common.{◌≡◌, take}
use Rattle.nc_write.specs.declared.NcKind.TheVariants as kinds
use Rattle.nc_write.specs.File.{value_bytes}
use Rattle.nc_write.proofs.data.spell_bytes.Given as goal

abbrev pub invariant-loop-number : goal.invariant-loop-number
invariant-loop-number l = l.room.items ≡ value_bytes kinds.Byte (take l.number-index l.numbers)
