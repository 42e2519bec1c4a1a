-- What each target gets of what is present.
use Rattle.std.proofs.Common.{◌≡◌, ℕ, ◌+◌, ◌*◌, ◌<◌, ◌≤◌, ℤ, pos, List, map, ap₂, ◌∙◌, Option, arith}
use Rattle.std.specs.List.{filter}
use Rattle.map_rows.specs.declared.rows.MapRow.{MapRow}
use Rattle.map_rows.specs.Maps.{MapParts, total, measure_of, target_of, rows_of}
use Rattle.apply_map.specs.Values.{carried}
use Rattle.field_mask.specs.Masked.{MaskedShare, masked_share, masked_share_at, masked_application_of, masked_whole, masked_rest, masked_part, masked_field_of}
use Rattle.field_mask.specs.declared.fields.MaskedField.{MaskedField}
use Rattle.field_mask.specs.Present.{is_present_at}

abbrev pub no_share : MaskedShare
no_share = record { whole = pos 0; rest = pos 0; part = pos 0 }

-- the sums that were made are those of the target
pub share_is : (m : MapParts) (fill : Option ℤ) (values : List ℤ) (slice first j : ℕ) (rows : List MapRow) (part sum : ℤ) → first ≡ slice * m.n_a → rows ≡ rows_of target_of m.rows j
    → part ≡ total (map measure_of (filter (is_present_at fill values first) rows)) → sum ≡ total (map (carried values first) (filter (is_present_at fill values first) rows))
    → masked_share fill sum part ≡ masked_share_at m fill values slice j
share_is m fill values slice first j rows part sum f r e g =
    ap₂ (masked_share fill) (g ∙ ap₂ (λ (p : ℕ) (xs : List MapRow). total (map (carried values p) (filter (is_present_at fill values p) xs))) f r)
    (e ∙ ap₂ (λ (p : ℕ) (xs : List MapRow). total (map measure_of (filter (is_present_at fill values p) xs))) f r)

-- the field of three lists
pub field_is : (m : MapParts) (slices : ℕ) (fill : Option ℤ) (values whole rest part : List ℤ) → whole ≡ map masked_whole (masked_application_of m slices fill values)
    → rest ≡ map masked_rest (masked_application_of m slices fill values) → part ≡ map masked_part (masked_application_of m slices fill values)
    → ◌≡◌ {A = MaskedField} (record { whole = whole; rest = rest; part = part }) (masked_field_of (masked_application_of m slices fill values))
field_is m slices fill values whole rest part f g h = λ i. record { whole = f i; rest = g i; part = h i }

-- the slice is one of those before `to`
pub slice_within : (slice to n count : ℕ) → slice < to → to * n ≤ count → (slice + 1) * n ≤ count
slice_within slice to n count l h = grind arith
