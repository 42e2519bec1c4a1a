-- Each value takes a byte or more.
use Rattle.std.proofs.Common.{◌<◌, arith}
use Rattle.nc_write.specs.declared.NcKind.{NcKind}
use Rattle.nc_write.specs.declared.NcKind.TheVariants as kinds
use Rattle.nc_write.specs.Kinds.{size_of}

pub some_bytes : (kind : NcKind) → 0 < size_of kind
some_bytes kinds.Byte = omega arith
some_bytes kinds.Char = omega arith
some_bytes kinds.Short = omega arith
some_bytes kinds.Int = omega arith
some_bytes kinds.Float = omega arith
some_bytes kinds.Double = omega arith
some_bytes kinds.UByte = omega arith
some_bytes kinds.UShort = omega arith
some_bytes kinds.UInt = omega arith
some_bytes kinds.Int64 = omega arith
some_bytes kinds.UInt64 = omega arith
