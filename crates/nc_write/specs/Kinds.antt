-- The types of netCDF values (netCDF classic format specification; CDF-5).
use Rattle.std.specs.Prelude.{ℕ, ℤ, List, ◌==◌, if◌then◌else◌}
use Rattle.std.specs.Int.{Width, w8, w16, w32, w64, cast_unsigned}
use Rattle.byteorder.specs.Endian.{big_bytes}
use Rattle.nc_write.specs.declared.NcKind.{NcKind}
use Rattle.nc_write.specs.declared.NcKind.TheVariants.{Byte, Char, Short, Int, Float, Double, UByte, UShort, UInt, Int64, UInt64}

-- the number that names the type in a file
abbrev pub type_number : NcKind → ℕ
type_number Byte = 1
type_number Char = 2
type_number Short = 3
type_number Int = 4
type_number Float = 5
type_number Double = 6
type_number UByte = 7
type_number UShort = 8
type_number UInt = 9
type_number Int64 = 10
type_number UInt64 = 11

-- the type that a number of 1 to 11 names
unfoldable pub kind_numbered : ℕ → NcKind
kind_numbered t =
    if t == 1 then Byte else (if t == 2 then Char else (if t == 3 then Short else (if t == 4 then Int else (
    if t == 5 then Float else (if t == 6 then Double else (if t == 7 then UByte else (
    if t == 8 then UShort else (if t == 9 then UInt else (if t == 10 then Int64 else UInt64)))))))))

-- the bytes of one value
abbrev pub size_of : NcKind → ℕ
size_of Byte = 1
size_of Char = 1
size_of Short = 2
size_of Int = 4
size_of Float = 4
size_of Double = 8
size_of UByte = 1
size_of UShort = 2
size_of UInt = 4
size_of Int64 = 8
size_of UInt64 = 8

-- as many bits as one value has
abbrev pub bits_of : NcKind → Width
bits_of Byte = w8
bits_of Char = w8
bits_of Short = w16
bits_of Int = w32
bits_of Float = w32
bits_of Double = w64
bits_of UByte = w8
bits_of UShort = w16
bits_of UInt = w32
bits_of Int64 = w64
bits_of UInt64 = w64

-- a whole number as one value of the type: two's complement, the highest byte first
unfoldable pub value : NcKind → ℤ → List ℕ
value kind z = big_bytes (size_of kind) (cast_unsigned (bits_of kind) z)
