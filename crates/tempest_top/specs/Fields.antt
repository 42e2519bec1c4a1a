-- The field that a map makes of the variable of a data file: its document, and its text. Source: the application is that of
-- `map_rows` and of `field_mask`; the rest is our own.
use Rattle.std.specs.Prelude.{◌≡◌, ℕ, ◌*◌, ℤ, List, ◌++◌, length, codes, decimal, IfSome, IsSomeAnd}
use Rattle.std.specs.Fmt.{signed_decimal}
use Rattle.map_rows.specs.Maps.{MapParts}
use Rattle.map_rows.specs.Application.{application_of, source_mass_of, target_mass_of}
use Rattle.apply_map.specs.declared.fields.Field.{Field}
use Rattle.apply_map.specs.Fields.{field_of}
use Rattle.apply_map.specs.Values.{HasNoneBefore, IsFirstAt}
use Rattle.field_mask.specs.declared.fields.MaskedField.{MaskedField}
use Rattle.field_mask.specs.Masked.{masked_application_of, masked_field_of, present_mass_of, part_mass_of, masked_count_of}
use Rattle.nc_write.specs.declared.NcDoc.{NcDoc}
use Rattle.nc_write.specs.Made.{Made, of_lists}
use Rattle.field_files.specs.declared.FieldVar.{FieldVar}
use Rattle.field_files.specs.FieldShapes.{Fits}
use Rattle.field_files.specs.FieldDocument.{field_document, masked_field_document}
use Rattle.data_load.specs.declared.DataVar.{DataVar}
use Rattle.data_load.specs.DataFile.{IsDataVar}

-- the variable was loaded, and lies over the map so
pub record LiesOver (m : MapParts) (found : DataVar) (field : FieldVar) : Type 0 where
  pub sound : IsDataVar found
  pub fits : Fits found.file m.n_a field
  pub counts : length found.values ≡ field.slices * m.n_a

-- the value at this place, from 1, is the first that is the fill value
abbrev pub IsFilledAt : DataVar → ℕ → Type 0
IsFilledAt found place = IsSomeAnd found.fill (λ fill. IsFirstAt found.values fill place)

-- no value is
abbrev pub HasNoFill : DataVar → Type 0
HasNoFill found = IfSome found.fill (λ fill. HasNoneBefore found.values fill (length found.values))

-- how many slices there are, and the masses on both sides
abbrev pub source_text : ℕ → ℤ → List ℕ
source_text slices mass = codes "slices " ++ decimal slices ++ codes " source_mass " ++ signed_decimal mass

abbrev pub masses_text : ℕ → ℤ → ℤ → List ℕ
masses_text slices source target = source_text slices source ++ codes " target_mass " ++ signed_decimal target

-- what is put to the output for a field
abbrev pub field_text : ℕ → ℤ → ℤ → List ℕ
field_text slices source target = masses_text slices source target ++ codes "\n"

-- and for a masked field, so many of whose parts are 0
abbrev pub masked_field_text : ℕ → ℤ → ℤ → ℕ → List ℕ
masked_field_text slices source target masked = masses_text slices source target ++ codes " masked " ++ decimal masked ++ codes "\n"

-- Without a mask.

abbrev pub plain_of : MapParts → DataVar → FieldVar → Field
plain_of m found field = field_of (application_of m field.slices found.values)

-- what its document stands for while it is written
abbrev pub plain_numbers : MapParts → DataVar → FieldVar → Made
plain_numbers m found field = let made = plain_of m found field in of_lists made.whole made.rest

abbrev pub plain_document : MapParts → DataVar → FieldVar → NcDoc
plain_document m found field = let made = plain_of m found field in field_document found.file field m.n_b made.whole made.rest

abbrev pub plain_text : MapParts → DataVar → FieldVar → List ℕ
plain_text m found field =
    let made = plain_of m found field in
    field_text field.slices (source_mass_of m field.slices found.values) (target_mass_of m field.slices made.whole made.rest)

-- With a mask.

abbrev pub masked_of : MapParts → DataVar → FieldVar → MaskedField
masked_of m found field = masked_field_of (masked_application_of m field.slices found.fill found.values)

abbrev pub masked_document : MapParts → DataVar → FieldVar → NcDoc
masked_document m found field =
    let made = masked_of m found field in masked_field_document found.file field m.n_b found.fill made.whole made.rest made.part

abbrev pub masked_text : MapParts → DataVar → FieldVar → List ℕ
masked_text m found field =
    let made = masked_of m found field in
    masked_field_text field.slices (present_mass_of m field.slices found.fill found.values) (part_mass_of m field.slices made) (masked_count_of made.part)
