-- How a variable lies over the sources of a map: its leading and its trailing dimensions, and its slices. Our own.
use Rattle.std.specs.Prelude.{◌≡◌, ℕ, ◌-◌, ◌*◌, List, length, take, map, Bool, ◌==◌, ◌&&◌, nat_lt, Option, Some, None, Result, Ok, Err, if◌then◌else◌, slice_get}
use Rattle.nc_format.specs.declared.NcFile.{NcFile}
use Rattle.nc_write.specs.Extents.{lens_of, product_of}
use Rattle.field_files.specs.declared.FieldVar.{FieldVar}
use Rattle.field_files.specs.declared.NoFit.{NoFit}
use Rattle.field_files.specs.FileHeader.{dims_at}
use Rattle.field_files.specs.FieldNames.{len_by, last_len, IsFieldPlace}

-- the length of the last dimension but one; 0 where there is none
abbrev pub len_before_last : List ℕ → List ℕ → ℕ
len_before_last lens ids = if nat_lt 1 (length ids) then len_by lens (slice_get ids (length ids - 2)) else 0

-- neither of two lengths is that of the record dimension, and their product is n
abbrev pub is_product : ℕ → ℕ → ℕ → Bool
is_product n first second = nat_lt 0 first && nat_lt 0 second && (first * second == n)

-- How many dimensions trail, by the lengths of the last two: the last one, where it has the length n_a; else the last
-- two, where neither is the record dimension and the product of their lengths is n_a; else there are none.
abbrev pub trailing_by : ℕ → ℕ → ℕ → Option ℕ
trailing_by n_a before last =
    if last == n_a then Some 1 else (if is_product n_a before last then Some 2 else None)

abbrev pub trailing_count : ℕ → List ℕ → List ℕ → Option ℕ
trailing_count n_a lens ids = trailing_by n_a (len_before_last lens ids) (last_len lens ids)

-- the lengths of all dimensions, with the number of records as that of the record dimension
abbrev pub whole_lens : ℕ → List ℕ → List ℕ
whole_lens records lens = map (λ n. if n == 0 then records else n) lens

-- how many slices the leading dimensions make: the product of their lengths
abbrev pub slices_of : NcFile → List ℕ → ℕ
slices_of file leading = product_of (whole_lens file.records (lens_of file.dims)) leading

-- a variable of which so many dimensions lead
abbrev pub led_by : NcFile → ℕ → ℕ → FieldVar
led_by file place leading =
    record { var = place; leading = leading; slices = slices_of file (take leading (dims_at file place)) }

-- all dimensions before the trailing ones lead; without trailing ones the last length is told
abbrev pub fitted : NcFile → ℕ → Option ℕ → Result FieldVar NoFit
fitted file place None = Err (record { last_len = last_len (lens_of file.dims) (dims_at file place) })
fitted file place (Some trailing) = Ok (led_by file place (length (dims_at file place) - trailing))

-- The variable at a place against a map with n_a sources.
unfoldable pub field_over : NcFile → ℕ → ℕ → Result FieldVar NoFit
field_over file place n_a = fitted file place (trailing_count n_a (lens_of file.dims) (dims_at file place))

-- a variable that fits a map with n_a sources
pub record Fits (file : NcFile) (n_a : ℕ) (field : FieldVar) : Type 0 where
  pub place : IsFieldPlace file field.var
  pub over : field_over file field.var n_a ≡ Ok field
