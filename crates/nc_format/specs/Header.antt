-- Which bytes begin with a header, and what is the first fault of those that do not.
use Rattle.std.specs.Prelude.{◌≡◌, ◌≢◌, ◌⊎◌, ℕ, ◌+◌, List, ◌∷◌, ◌++◌, length, Option, Some, None, Result, Ok, Err, All, Bool, true, false, nat_lt, ◌==◌, ◌||◌, ◌&&◌, if◌then◌else◌, slice_index}
use Rattle.std.specs.List.{position}
use Rattle.nc_format.specs.declared.NcFile.{NcFile}
use Rattle.nc_format.specs.declared.fault.NcFault.{NcFault}
use Rattle.nc_format.specs.declared.fault.NcFault.TheVariants.{NotNetcdf, Truncated, BadField, DataOutside}
use Rattle.nc_format.specs.Parts.{on_value}
use Rattle.nc_format.specs.Grammar.{body}
use Rattle.nc_format.specs.Placing.{placed_vars, with_places, is_outside}

-- The magic.

-- the letters CDF and the byte of the version, with what stands behind
abbrev pub magic : ℕ → List ℕ → List ℕ
magic version rest = 0x43 ∷ 0x44 ∷ 0x46 ∷ version ∷ rest

-- the versions that are read
abbrev pub is_version : ℕ → Bool
is_version version = version == 1 || version == 2 || version == 5

-- A header, and its faults.

-- bytes that spell the fields of a header
pub record IsSpelled (s : List ℕ) (f : NcFile) : Type 0 where
  pub version : ℕ
  pub rest : List ℕ
  pub parts : s ≡ magic version rest
  pub known : is_version version ≡ true
  pub is_body : (body version).Spells rest f

-- Bytes begin with a header, in a file of a length that holds all values of its variables.
pub record IsHeader (b : List ℕ) (len : ℕ) (f : NcFile) : Type 0 where
  pub header : List ℕ
  pub rest : List ℕ
  pub fields : NcFile
  pub parts : b ≡ header ++ rest
  pub spelled : IsSpelled header fields
  pub placed : f ≡ with_places fields
  pub inside : All (λ v. is_outside len v ≡ false) f.vars

-- fewer than four bytes, or others than CDF and a version
abbrev pub HasNoMagic : List ℕ → Type 0
HasNoMagic b = (version : ℕ) (rest : List ℕ) → b ≢ magic version rest

-- the version is none that is read
pub record HasOtherVersion (b : List ℕ) : Type 0 where
  pub version : ℕ
  pub rest : List ℕ
  pub parts : b ≡ magic version rest
  pub unknown : is_version version ≡ false

-- the magic stands there, and behind it, from offset 4 on, the first fault is this one
pub record HasBadBody (b : List ℕ) (e : NcFault) : Type 0 where
  pub version : ℕ
  pub rest : List ℕ
  pub parts : b ≡ magic version rest
  pub known : is_version version ≡ true
  pub fault : (body version).Fails 4 rest e

-- no field is at fault, and this is the place, from 0, of the first variable with a value outside the file
pub record HasDataOutside (b : List ℕ) (len place : ℕ) : Type 0 where
  pub header : List ℕ
  pub rest : List ℕ
  pub fields : NcFile
  pub parts : b ≡ header ++ rest
  pub spelled : IsSpelled header fields
  pub first : position (is_outside len) (placed_vars fields) ≡ Some place

-- The first fault of bytes in a file of a length. A fault names a variable by its number, which counts from 1.
abbrev pub IsFirstFault : List ℕ → ℕ → NcFault → Type 0
IsFirstFault b len e =
    ((e ≡ NotNetcdf) × HasNoMagic b)
    ⊎ ((e ≡ BadField 3) × HasOtherVersion b)
    ⊎ HasBadBody b e
    ⊎ ((place : ℕ) × (e ≡ DataOutside (place + 1)) × HasDataOutside b len place)

-- The same as functions, from left to right.

-- the fields behind four bytes that are told
unfoldable pub magic_read : ℕ → ℕ → ℕ → ℕ → List ℕ → Result (NcFile × ℕ) NcFault
magic_read c d f version b = if c == 0x43 && d == 0x44 && f == 0x46 then (if is_version version then (body version).read b 4 else Err (BadField 3)) else Err NotNetcdf

-- the fields of the header that bytes begin with, and the offset behind it
unfoldable pub header_read : List ℕ → Result (NcFile × ℕ) NcFault
header_read b = if nat_lt (length b) 4 then Err NotNetcdf else magic_read (slice_index b 0) (slice_index b 1) (slice_index b 2) (slice_index b 3) b

-- a header, unless some variable is outside the file
abbrev pub inside_or : NcFile → Option ℕ → Result NcFile NcFault
inside_or f None = Ok f
inside_or f (Some place) = Err (DataOutside (place + 1))

-- the fields of a header with the places of all values, which the file has to hold
unfoldable pub finished : ℕ → NcFile → Result NcFile NcFault
finished len f = inside_or (with_places f) (position (is_outside len) (placed_vars f))

-- the fields without the offset
abbrev pub fields_in : Result (NcFile × ℕ) NcFault → Result NcFile NcFault
fields_in (Ok x) = Ok x.0
fields_in (Err e) = Err e

-- the header that bytes begin with in a file of a length, or the first fault
unfoldable pub header_in : List ℕ → ℕ → Result NcFile NcFault
header_in b len = on_value (fields_in (header_read b)) (finished len)

-- the fault, if there is one
abbrev pub fault_in : Result NcFile NcFault → Option NcFault
fault_in (Ok f) = None
fault_in (Err e) = Some e

-- the first fault, if there is one
unfoldable pub first_fault : List ℕ → ℕ → Option NcFault
first_fault b len = fault_in (header_in b len)

-- no fault, or one that more bytes leave as it is
abbrev pub IsSettled : Option NcFault → Type 0
IsSettled first = (o : ℕ) → first ≢ Some (Truncated o)
