-- The values of the variables of a file, and how many bytes are read for them. Source: our own.
use Rattle.std.specs.Prelude.{ℕ, ℤ, zero, suc, ◌+◌, ◌*◌, ◌/◌, nat_le, if◌then◌else◌, List, [], Option, Some, None, slice_get}
use Rattle.nc_write.specs.Kinds.{size_of}
use Rattle.nc_format.specs.declared.NcFile.{NcFile}
use Rattle.nc_format.specs.declared.NcVar.{NcVar}
use Rattle.nc_format.specs.Numbers.{numbers_in, gathered}

-- how many values a variable has
abbrev pub value_count : NcVar → ℕ
value_count v = v.parts * v.part / size_of v.kind

-- how many bytes are read for piece r, from 0: none where it lies in the first bytes, which are so many
abbrev pub piece_cost : ℕ → NcVar → ℕ → ℕ
piece_cost have v r = if nat_le (v.begin + r * v.step + v.part) have then 0 else v.part

-- and for the first n pieces
unfoldable pub pieces_cost : ℕ → NcVar → ℕ → ℕ
pieces_cost have v zero = 0
pieces_cost have v (suc n) = pieces_cost have v n + piece_cost have v n

-- how many bytes are read for the values of a variable
abbrev pub values_cost : ℕ → NcVar → ℕ
values_cost have v = pieces_cost have v v.parts

-- the values of a variable of a file with these bytes
abbrev pub numbers_of : List ℕ → Option NcVar → List ℤ
numbers_of bytes None = []
numbers_of bytes (Some v) = numbers_in v.kind (gathered v bytes)

-- those of the variable at a place, from 0
abbrev pub numbers_at : NcFile → List ℕ → ℕ → List ℤ
numbers_at file bytes place = numbers_of bytes (slice_get file.vars place)

-- how many they are
abbrev pub count_of : Option NcVar → ℕ
count_of None = 0
count_of (Some v) = value_count v

abbrev pub count_at : NcFile → ℕ → ℕ
count_at file place = count_of (slice_get file.vars place)

-- the bytes of all pieces of a variable
abbrev pub var_bytes : Option NcVar → ℕ
var_bytes None = 0
var_bytes (Some v) = v.parts * v.part

-- those of the variable at a place, from 0
abbrev pub bytes_at : NcFile → ℕ → ℕ
bytes_at file place = var_bytes (slice_get file.vars place)
