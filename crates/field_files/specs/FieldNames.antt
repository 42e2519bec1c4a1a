-- The variable of a field in a file, or the first fault: its presence, its type, its dimensions.
-- The names, types and shapes that a field has in a file are our own.
use Rattle.std.specs.Prelude.{◌≡◌, ℕ, ◌-◌, List, length, take, Bool, false, not, ◌&&◌, nat_lt, Option, Some, None, Result, Ok, Err, if◌then◌else◌, slice_get, slice_index, codes}
use Rattle.std.specs.List.{list_any}
use Rattle.std.specs.Str.{bytes_eq}
use Rattle.nc_write.specs.declared.DocDim.{DocDim as NcDim}
use Rattle.nc_format.specs.declared.NcFile.{NcFile}
use Rattle.nc_write.specs.Extents.{lens_of}
use Rattle.nc_format.specs.Numbers.{var_named}
use Rattle.exodus_mesh.specs.declared.kinds.NumberKind.TheVariants.{Int}
use Rattle.exodus_mesh.specs.declared.ids.NameId.TheVariants.{Var}
use Rattle.exodus_mesh.specs.declared.ids.NameFault.{NameFault}
use Rattle.exodus_mesh.specs.declared.ids.NameFault.TheVariants.{Missing, Shape}
use Rattle.exodus_mesh.specs.Names.{◌>>=◌, found_or}
use Rattle.exodus_mesh.specs.VarLens.{if_of}

-- the length of a dimension that there may be, where the record dimension counts 0; 0 where there is none
abbrev pub len_by : List ℕ → Option ℕ → ℕ
len_by lens None = 0
len_by lens (Some id) = slice_index lens id

-- the length of the last dimension
abbrev pub last_len : List ℕ → List ℕ → ℕ
last_len lens ids = len_by lens (slice_get ids (length ids - 1))

-- a dimension that there may be has this name
abbrev pub is_named : List ℕ → Option NcDim → Bool
is_named name None = false
is_named name (Some d) = bytes_eq d.name name

-- the dimension of the targets, which a field file adds
abbrev pub is_target_dim : List NcDim → ℕ → Bool
is_target_dim dims id = is_named (codes "n_b") (slice_get dims id)

-- a last dimension that is not the record dimension, and none but the last has the name `n_b`
abbrev pub has_field_shape : List NcDim → List ℕ → Bool
has_field_shape dims ids =
    nat_lt 0 (last_len (lens_of dims) ids) && not (list_any (is_target_dim dims) (take (length ids - 1) ids))

-- The place of the variable, from 0, or the first fault.
unfoldable pub field_var : NcFile → List ℕ → Result ℕ NameFault
field_var file name = do
  place ← found_or (Missing Var) (var_named file.vars name)
  v ← found_or (Missing Var) (slice_get file.vars place)
  good ← if_of Int Var v
  if has_field_shape file.dims good.dims then Ok place else Err (Shape Var)

-- a variable that a field is read from stands at this place
abbrev pub IsFieldPlace : NcFile → ℕ → Type 0
IsFieldPlace file place = (name : List ℕ) × (field_var file name ≡ Ok place)
