-- Rows whose source has a value, by the place where a slice begins, and what a target gets, by places from 0.
use Rattle.std.specs.Prelude.{ℕ, ◌+◌, ◌-◌, ℤ, pos, Bool, not, List, length, filter, slice_index_or, Option}
use Rattle.map_rows.specs.Application.{sum_over, value_at, area_at}
use Rattle.map_rows.specs.declared.rows.MapRow.{MapRow}
use Rattle.map_rows.specs.Maps.{MapParts}
use Rattle.field_mask.specs.Masked.{MaskedShare, is_absent, masked_share_at, present_product}

-- the slice that begins at place `first` has a value of the row's source
abbrev pub is_present_at : Option ℤ → List ℤ → ℕ → MapRow → Bool
is_present_at fill values first r = not (is_absent fill (slice_index_or values (first + (r.col - 1)) (pos 0)))

-- the present ones of rows
abbrev pub present_of : Option ℤ → List ℤ → ℕ → List MapRow → List MapRow
present_of fill values first rows = filter (is_present_at fill values first) rows

-- the sum of area times value over the faces of this slice whose value is present
abbrev pub present_slice_mass_of : Option ℤ → List ℤ → List ℤ → ℕ → ℤ
present_slice_mass_of fill areas values slice =
    sum_over 1 (length areas) (λ (i : ℕ). present_product fill (area_at areas i) (value_at values (length areas) slice i))

-- one of the numbers that a target gets in a slice, both from 0
abbrev pub masked_number : (MaskedShare → ℤ) → MapParts → Option ℤ → List ℤ → ℕ → ℕ → ℤ
masked_number f m fill values slice target = f (masked_share_at m fill values slice (1 + target))
