-- How many bytes the values of variables take, by the lengths of all dimensions: the list lens
-- (netCDF classic format specification, on the computation of variable offsets).
-- A dimension is named by its place in that list, from 0. The one of length 0 is the record dimension.
use Rattle.std.specs.Prelude.{ℕ, ◌+◌, ◌-◌, ◌*◌, ◌%◌, List, [], ◌∷◌, map, Bool, false, not, ◌==◌, if◌then◌else◌, slice_index}
use Rattle.std.specs.List.{count_by, sum_by}
use Rattle.nc_write.specs.declared.DocDim.{DocDim}
use Rattle.nc_write.specs.declared.NcKind.{NcKind}
use Rattle.nc_write.specs.Kinds.{size_of}

-- how many bytes are missing to a multiple of 4
abbrev pub pad_len : ℕ → ℕ
pad_len n = (4 - n % 4) % 4

abbrev pub rounded : ℕ → ℕ
rounded n = n + pad_len n

-- the lengths of all dimensions
abbrev pub lens_of : List DocDim → List ℕ
lens_of dims = map (λ d. d.len) dims

-- the product of the lengths of the dimensions named
unfoldable pub product_of : List ℕ → List ℕ → ℕ
product_of lens [] = 1
product_of lens (id ∷ ids) = slice_index lens id * product_of lens ids

-- a record variable is one whose first dimension is the record dimension
unfoldable pub has_records : List ℕ → List ℕ → Bool
has_records lens [] = false
has_records lens (id ∷ ids) = slice_index lens id == 0

-- the number of values in one piece: all of them, or those of one record
unfoldable pub piece_count : List ℕ → List ℕ → ℕ
piece_count lens [] = 1
piece_count lens (id ∷ ids) =
    if slice_index lens id == 0 then product_of lens ids else product_of lens (id ∷ ids)

-- the bytes of one piece of values of a type
unfoldable pub piece_len : List ℕ → NcKind → List ℕ → ℕ
piece_len lens kind ids = size_of kind * piece_count lens ids

-- how many pieces the values stand in: one, or as many as there are records
abbrev pub piece_total : ℕ → Bool → ℕ
piece_total records is_record = if is_record then records else 1

-- what a variable adds to the step from one record to the next: the bytes of one of its records,
-- rounded where there are several record variables
abbrev pub share_of : Bool → Bool → ℕ → ℕ
share_of several is_record piece = if is_record then (if several then rounded piece else piece) else 0

-- whether records are padded: they are, unless there is exactly one record variable (netCDF classic
-- format specification, "Note on padding")
unfoldable pub has_several : {V : Type 0} → (V → Bool) → List V → Bool
has_several is_record vars = not (count_by is_record vars == 1)

-- the bytes from one record to the next: what all variables add
abbrev pub step_of : {V : Type 0} → (V → Bool) → (V → ℕ) → List V → ℕ
step_of is_record piece vars =
    sum_by (λ v. share_of (has_several is_record vars) (is_record v) (piece v)) vars
