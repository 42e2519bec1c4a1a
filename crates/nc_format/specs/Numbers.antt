-- The values of variables and attributes, and what a name finds.
use Rattle.std.specs.Prelude.{◌≡◌, ℕ, ◌+◌, ◌*◌, ◌/◌, ◌%◌, ◌<◌, ◌≤◌, ℤ, List, map, length, drop, slice_range, Option, Some, None, Bool, true, false, ◌==◌, ◌&&◌, if◌then◌else◌}
use Rattle.std.specs.List.{flat_map, range_with_len, find, position}
use Rattle.std.specs.Str.{bytes_eq}
use Rattle.std.specs.Int.{cast_signed}
use Rattle.byteorder.specs.Endian.{big_number}
use Rattle.nc_write.specs.declared.NcKind.{NcKind}
use Rattle.nc_write.specs.declared.NcKind.TheVariants.{Byte, Char, Short, Int, Float, Double, UByte, UShort, UInt, Int64, UInt64}
use Rattle.nc_write.specs.Kinds.{size_of, bits_of}
use Rattle.nc_write.specs.declared.DocDim.{DocDim as NcDim}
use Rattle.nc_format.specs.declared.NcAtt.{NcAtt}
use Rattle.nc_format.specs.declared.NcVar.{NcVar}

-- the types of whole numbers with sign that are read
abbrev pub is_int : NcKind → Bool
is_int Byte = true
is_int Char = false
is_int Short = true
is_int Int = true
is_int Float = false
is_int Double = false
is_int UByte = false
is_int UShort = false
is_int UInt = false
is_int Int64 = false
is_int UInt64 = false

-- the same, and INT64
abbrev pub is_long : NcKind → Bool
is_long Byte = true
is_long Char = false
is_long Short = true
is_long Int = true
is_long Float = false
is_long Double = false
is_long UByte = false
is_long UShort = false
is_long UInt = false
is_long Int64 = true
is_long UInt64 = false

-- the number in the first bytes, as many as the type has: two's complement, the highest byte first
unfoldable pub number_in : NcKind → List ℕ → ℤ
number_in kind bytes = cast_signed (bits_of kind) (big_number (size_of kind) bytes)

-- one number after another
unfoldable pub numbers_in : NcKind → List ℕ → List ℤ
numbers_in kind bytes = map (λ k. number_in kind (drop (k * size_of kind) bytes)) (range_with_len 0 (length bytes / size_of kind))

-- all pieces of a variable are inside so many bytes
abbrev pub HasPieces : ℕ → NcVar → Type 0
HasPieces len v = (r : ℕ) → r < v.parts → v.begin + r * v.step + v.part ≤ len

-- the same, and each piece is some number of values
pub record HasWholePieces (len : ℕ) (v : NcVar) : Type 0 where
  pub inside : HasPieces len v
  pub whole : v.part % size_of v.kind ≡ 0

-- piece r, from 0
abbrev pub piece_of : NcVar → List ℕ → ℕ → List ℕ
piece_of v file r = slice_range file (v.begin + r * v.step) (v.begin + r * v.step + v.part)

-- the pieces, one after another
unfoldable pub gathered : NcVar → List ℕ → List ℕ
gathered v file = flat_map (piece_of v file) (range_with_len 0 v.parts)

-- the first attribute of a name
abbrev pub att_named : List NcAtt → List ℕ → Option NcAtt
att_named atts name = find (λ a. bytes_eq a.name name) atts

-- the value of an attribute that is one integer
abbrev pub one_int : NcAtt → Option ℤ
one_int a = if is_int a.kind && a.count == 1 then Some (number_in a.kind a.bytes) else None

-- the same of an attribute that there may be
abbrev pub one_int_of : Option NcAtt → Option ℤ
one_int_of None = None
one_int_of (Some a) = one_int a

-- the place of the first dimension of a name
abbrev pub dim_named : List NcDim → List ℕ → Option ℕ
dim_named dims name = position (λ d. bytes_eq d.name name) dims

-- the place of the first variable of a name
abbrev pub var_named : List NcVar → List ℕ → Option ℕ
var_named vars name = position (λ v. bytes_eq v.name name) vars
