-- What holds of every map and every field over its sources in which values may be absent. Source: our own.
use Rattle.std.specs.Prelude.{◌≡◌, ◌≢◌, ℕ, ◌*◌, ◌≤◌, ℤ, pos, ◌+ℤ◌, ◌*ℤ◌, ◌≤ℤ◌, ◌<ℤ◌, false, List, length, map, All, Option}
use Rattle.map_rows.specs.Maps.{MapParts, source_of}
use Rattle.map_rows.specs.Application.{value_at, area_at, application_of, wholes_of, rests_of}
use Rattle.map_rows.specs.Laws.{IsPlace}
use Rattle.field_mask.specs.declared.fields.MaskedField.{MaskedField}
use Rattle.field_mask.specs.declared.fields.MaskFault.{MaskFault}
use Rattle.field_mask.specs.declared.fields.MaskFault.TheVariants.{Length, NoMemory}
use Rattle.field_mask.specs.Masked.{is_absent, present_rows}

-- the sources of target j that have a value in this slice
abbrev pub present_sources : MapParts → Option ℤ → List ℤ → ℕ → ℕ → List ℕ
present_sources m fill values slice j = map source_of (present_rows m fill values slice j)

-- each of them has a value that meets the test
abbrev pub EachPresentSource : MapParts → Option ℤ → List ℤ → ℕ → ℕ → (ℤ → Type 0) → Type 0
EachPresentSource m fill values slice j P = All (λ (i : ℕ). P (value_at values m.n_a slice i)) (present_sources m fill values slice j)

-- where a rest stands: 0 where no part is present, and else from 0 to below the part
pub record IsRestOf (part rest : ℤ) : Type 0 where
  pub none : part ≡ pos 0 → rest ≡ pos 0
  pub some : part ≢ pos 0 → (pos 0 ≤ℤ rest) × (rest <ℤ part)

-- a whole part, a rest and a part for each target of each slice, each part from 0 to the area of its target
pub record IsMaskedFieldOf (m : MapParts) (slices : ℕ) (field : MaskedField) : Type 0 where
  pub whole_count : length field.whole ≡ slices * m.n_b
  pub rest_count : length field.rest ≡ slices * m.n_b
  pub part_count : length field.part ≡ slices * m.n_b
  pub parts : (slice j : ℕ) → IsPlace m slices slice j → (pos 0 ≤ℤ value_at field.part m.n_b slice j) × (value_at field.part m.n_b slice j ≤ℤ area_at m.area_b j)
  pub rests : (slice j : ℕ) → IsPlace m slices slice j → IsRestOf (value_at field.part m.n_b slice j) (value_at field.rest m.n_b slice j)

-- where a target has a present source and all of them hold c, so does the target, with rest 0
abbrev pub KeepsPresentConstants : MapParts → ℕ → Option ℤ → List ℤ → MaskedField → Type 0
KeepsPresentConstants m slices fill values field =
    (slice j : ℕ) (c : ℤ) → IsPlace m slices slice j → 1 ≤ length (present_sources m fill values slice j) → EachPresentSource m fill values slice j (λ (x : ℤ). x ≡ c)
    → (value_at field.whole m.n_b slice j ≡ c) × (value_at field.rest m.n_b slice j ≡ pos 0)

-- where a part is present, what its target gets is no less than the least of its present sources, and with its rest over the part no more than the greatest
abbrev pub KeepsPresentBounds : MapParts → ℕ → Option ℤ → List ℤ → MaskedField → Type 0
KeepsPresentBounds m slices fill values field =
    (slice j : ℕ) (least greatest : ℤ) → IsPlace m slices slice j → pos 1 ≤ℤ value_at field.part m.n_b slice j → EachPresentSource m fill values slice j (λ (x : ℤ). least ≤ℤ x)
    → EachPresentSource m fill values slice j (λ (x : ℤ). x ≤ℤ greatest)
    → (least ≤ℤ value_at field.whole m.n_b slice j)
    × (((value_at field.part m.n_b slice j *ℤ value_at field.whole m.n_b slice j) +ℤ value_at field.rest m.n_b slice j) ≤ℤ (value_at field.part m.n_b slice j *ℤ greatest))

-- the plain field, with the whole areas as parts
pub record IsPlainField (m : MapParts) (slices : ℕ) (values : List ℤ) (field : MaskedField) : Type 0 where
  pub whole : field.whole ≡ wholes_of (application_of m slices values)
  pub rest : field.rest ≡ rests_of (application_of m slices values)
  pub parts : (slice j : ℕ) → IsPlace m slices slice j → value_at field.part m.n_b slice j ≡ area_at m.area_b j

-- where no value is absent, so it is
abbrev pub IsPlainWithoutAbsent : MapParts → ℕ → Option ℤ → List ℤ → MaskedField → Type 0
IsPlainWithoutAbsent m slices fill values field = All (λ (x : ℤ). is_absent fill x ≡ false) values → IsPlainField m slices values field

-- want of memory comes only where the counts agree
abbrev pub IsMaskFaultOf : MapParts → ℕ → List ℤ → MaskFault → Type 0
IsMaskFaultOf m slices values (Length sources field) = (sources ≡ m.n_a) × (field ≡ length values) × (length values ≢ slices * m.n_a)
IsMaskFaultOf m slices values NoMemory = length values ≡ slices * m.n_a
