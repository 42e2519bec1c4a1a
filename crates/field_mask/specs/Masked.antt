-- The application of a map to a field in which values may be absent, and the masses of what is present. Source: our own.
use Rattle.std.specs.Prelude.{ℕ, ℤ, pos, ◌+ℤ◌, ◌*ℤ◌, Bool, false, not, if◌then◌else◌, List, length, map, filter, Option, Some, None}
use Rattle.std.specs.List.{range_with_len, flat_map}
use Rattle.std.specs.Ordering.{int_eq}
use Rattle.map_rows.specs.declared.rows.MapRow.{MapRow}
use Rattle.map_rows.specs.Maps.{MapParts, total, measure_of, target_of, rows_of}
use Rattle.map_rows.specs.Application.{sum_over, value_at, area_at, product_of, divided}
use Rattle.field_mask.specs.declared.fields.MaskedField.{MaskedField}

-- the value is absent: it is the fill value, where there is one
abbrev pub is_absent : Option ℤ → ℤ → Bool
is_absent None x = false
is_absent (Some fill) x = int_eq x fill

-- in this slice the source of the row has a value
abbrev pub is_present : Option ℤ → List ℤ → ℕ → ℕ → MapRow → Bool
is_present fill values n_a slice r = not (is_absent fill (value_at values n_a slice r.col))

-- the present rows of target j
abbrev pub present_rows : MapParts → Option ℤ → List ℤ → ℕ → ℕ → List MapRow
present_rows m fill values slice j = filter (is_present fill values m.n_a slice) (rows_of target_of m.rows j)

-- the fill value, or 0 where there is none
abbrev pub fill_or_zero : Option ℤ → ℤ
fill_or_zero None = pos 0
fill_or_zero (Some fill) = fill

-- a whole part and a rest, of the measure that is present
pub record MaskedShare : Type 0 where
  pub whole : ℤ
  pub rest : ℤ
  pub part : ℤ

-- a sum over the part that is present, or the fill value where no part is
abbrev pub masked_share : Option ℤ → ℤ → ℤ → MaskedShare
masked_share fill sum part =
    if int_eq part (pos 0)
    then record { whole = fill_or_zero fill; rest = pos 0; part = pos 0 }
    else (let share = divided sum part in record { whole = share.whole; rest = share.rest; part = part })

-- what target j gets in this slice: the sum of measure times value over its present rows, and that of the measures
abbrev pub masked_share_at : MapParts → Option ℤ → List ℤ → ℕ → ℕ → MaskedShare
masked_share_at m fill values slice j =
    let rows = present_rows m fill values slice j in masked_share fill (total (map (product_of values m.n_a slice) rows)) (total (map measure_of rows))

abbrev pub masked_slice_of : MapParts → Option ℤ → List ℤ → ℕ → List MaskedShare
masked_slice_of m fill values slice = map (masked_share_at m fill values slice) (range_with_len 1 m.n_b)

-- slice by slice, and in each target by target
unfoldable pub masked_application_of : MapParts → ℕ → Option ℤ → List ℤ → List MaskedShare
masked_application_of m slices fill values = flat_map (masked_slice_of m fill values) (range_with_len 0 slices)

-- the whole parts, the rests, and the parts that are present
abbrev pub masked_whole : MaskedShare → ℤ
masked_whole s = s.whole

abbrev pub masked_rest : MaskedShare → ℤ
masked_rest s = s.rest

abbrev pub masked_part : MaskedShare → ℤ
masked_part s = s.part

abbrev pub masked_field_of : List MaskedShare → MaskedField
masked_field_of shares = record { whole = map masked_whole shares; rest = map masked_rest shares; part = map masked_part shares }

-- area times value, where the value is present
abbrev pub present_product : Option ℤ → ℤ → ℤ → ℤ
present_product fill area x = if is_absent fill x then pos 0 else (area *ℤ x)

-- the sum of area times value over all sources of all slices whose value is present
unfoldable pub present_mass_of : MapParts → ℕ → Option ℤ → List ℤ → ℤ
present_mass_of m slices fill values =
    sum_over 0 slices (λ (slice : ℕ). sum_over 1 m.n_a (λ (i : ℕ). present_product fill (area_at m.area_a i) (value_at values m.n_a slice i)))

-- the sum of part times whole part plus rest over all targets of all slices
unfoldable pub part_mass_of : MapParts → ℕ → MaskedField → ℤ
part_mass_of m slices field =
    sum_over 0 slices (λ (slice : ℕ). sum_over 1 m.n_b (λ (j : ℕ). (value_at field.part m.n_b slice j *ℤ value_at field.whole m.n_b slice j) +ℤ value_at field.rest m.n_b slice j))

-- how many parts are 0
abbrev pub masked_count_of : List ℤ → ℕ
masked_count_of parts = length (filter (λ (part : ℤ). int_eq part (pos 0)) parts)
