-- The lengths of the variable at a place, or the first fault: its presence, then its type, then its dimensions.
-- The integer types and the order of faults are this project's own.
use Rattle.std.specs.Prelude.{◌≡◌, ◌≢◌, ℕ, List, [], ◌∷◌, map, All, Bool, true, false, Some, IsSomeAnd, Result, Ok, Err, ◌==◌, if◌then◌else◌, slice_get, slice_index}
use Rattle.nc_write.specs.declared.NcKind.{NcKind}
use Rattle.nc_format.specs.declared.NcFile.{NcFile}
use Rattle.nc_format.specs.declared.NcVar.{NcVar}
use Rattle.nc_write.specs.Extents.{lens_of}
use Rattle.nc_format.specs.Numbers.{is_int, is_long}
use Rattle.exodus_mesh.specs.declared.kinds.NumberKind.{NumberKind}
use Rattle.exodus_mesh.specs.declared.kinds.NumberKind.TheVariants.{Int, Long}
use Rattle.exodus_mesh.specs.declared.ids.NameId.{NameId}
use Rattle.exodus_mesh.specs.declared.ids.NameFault.{NameFault}
use Rattle.exodus_mesh.specs.declared.ids.NameFault.TheVariants.{Missing, Shape, Kind}
use Rattle.exodus_mesh.specs.Names.{◌>>=◌, found_or}

-- the type is one of those
abbrev pub is_of : NumberKind → NcKind → Bool
is_of Int kind = is_int kind
is_of Long kind = is_long kind

-- a variable of one of those types, or the fault of its type
abbrev pub if_of : NumberKind → NameId → NcVar → Result NcVar NameFault
if_of kind id v = if is_of kind v.kind then Ok v else Err (Kind id)

-- the lengths of its dimensions, where the record dimension counts 0
unfoldable pub lens_at : NcFile → NumberKind → NameId → ℕ → Result (List ℕ) NameFault
lens_at file kind id place = do
  v ← found_or (Missing id) (slice_get file.vars place)
  good ← if_of kind id v
  Ok (map (slice_index (lens_of file.dims)) good.dims)

-- one dimension, which is not the record dimension: its length
abbrev pub one_len : NameId → List ℕ → Result ℕ NameFault
one_len id [] = Err (Shape id)
one_len id (n ∷ []) = if n == 0 then Err (Shape id) else Ok n
one_len id (n ∷ m ∷ more) = Err (Shape id)

-- two dimensions, none of which is the record dimension: their lengths
abbrev pub two_lens : NameId → List ℕ → Result (ℕ × ℕ) NameFault
two_lens id [] = Err (Shape id)
two_lens id (n ∷ []) = Err (Shape id)
two_lens id (n ∷ m ∷ []) = if n == 0 then Err (Shape id) else (if m == 0 then Err (Shape id) else Ok (n, m))
two_lens id (n ∷ m ∷ k ∷ more) = Err (Shape id)

-- this length, and no other
abbrev pub same_len : NameId → ℕ → ℕ → Result ℕ NameFault
same_len id wanted n = if n == wanted then Ok n else Err (Shape id)

-- the length of a variable of one dimension
unfoldable pub var_len : NcFile → NumberKind → NameId → ℕ → Result ℕ NameFault
var_len file kind id place = do
  lens ← lens_at file kind id place
  one_len id lens

-- the lengths of a variable of two dimensions
unfoldable pub var_lens : NcFile → NumberKind → NameId → ℕ → Result (ℕ × ℕ) NameFault
var_lens file kind id place = do
  lens ← lens_at file kind id place
  two_lens id lens

-- at this place stands a variable of one of those types
abbrev pub HasKind : NumberKind → NcFile → ℕ → Type 0
HasKind kind file place = IsSomeAnd (slice_get file.vars place) (λ v. is_of kind v.kind ≡ true)

-- at this place stands a variable of another type
abbrev pub HasOtherKind : NumberKind → NcFile → ℕ → Type 0
HasOtherKind kind file place = IsSomeAnd (slice_get file.vars place) (λ v. is_of kind v.kind ≡ false)

-- at this place stands a variable of one of those types with these lengths, none of which is that of the record dimension
pub record IsNumberVar (kind : NumberKind) (file : NcFile) (lens : List ℕ) (place : ℕ) : Type 0 where
  pub var : NcVar
  pub there : slice_get file.vars place ≡ Some var
  pub whole : is_of kind var.kind ≡ true
  pub shape : map (slice_index (lens_of file.dims)) var.dims ≡ lens
  pub fixed : All (λ n. n ≢ 0) lens
