-- The documents of fields are well formed.
use Rattle.std.proofs.Common.{◌≡◌, ℕ, ℤ, ◌*◌, ◌<◌, ◌≤◌, ◌^◌, List, [], ◌∷◌, length, All, Option, Some, None, refl, arith, lit<, lit≤, codes, length-append}
use Rattle.std.proofs.lemmas.List.Elements.{All-from_recursion}
use Rattle.nc_write.specs.declared.DocAtt.{DocAtt}
use Rattle.nc_write.specs.declared.DocVar.{DocVar}
use Rattle.nc_write.specs.declared.Values.{Values}
use Rattle.nc_write.specs.declared.Values.TheVariants.{Int, Long}
use Rattle.nc_write.specs.File.{numbers_of}
use Rattle.nc_write.specs.Form.{IsWellFormed}
use Rattle.nc_write.specs.Made.{made_doc, of_lists}
use Rattle.nc_format.specs.declared.NcFile.{NcFile}
use Rattle.field_files.specs.declared.FieldVar.{FieldVar}
use Rattle.field_files.specs.FileHeader.{IsFileHeader}
use Rattle.field_files.specs.FieldShapes.{Fits}
use Rattle.field_files.specs.FieldDocument.{leading_ids, field_name, variable_of, fill_atts, field_document, masked_field_document}
use Rattle.field_files.proofs.FieldFrames.{IsVarOver, document_form}
use Rattle.field_files.proofs.FieldLeads.{HasLeading, has_leading, is_led}

var_over : (file : NcFile) (field : FieldVar) (ending : List ℕ) (values : Values) (count : ℕ) → HasLeading file field → length ending ≤ 5 → length (numbers_of values) ≡ count → IsVarOver (leading_ids file field) count (variable_of file field ending values)
var_over file field ending values count h short numbers = record { dims = refl; name = omega (arith, h.name, short, length-append (field_name file field) ending); values = numbers }

pub field_form : (file : NcFile) (n_a : ℕ) (field : FieldVar) (n_b : ℕ) (whole rest : List ℤ) → IsFileHeader file → Fits file n_a field → 1 ≤ n_b → n_b ≤ 1048576 → length whole ≡ field.slices * n_b → length rest ≡ field.slices * n_b → IsWellFormed (field_document file field n_b whole rest)
unfolding field_document
field_form file n_a field n_b whole rest header fits least most wholes rests =
    let h = has_leading file n_a field header fits in
    let P : DocVar → Type 0 = IsVarOver (leading_ids file field) (field.slices * n_b) in
    let vars : List DocVar = variable_of file field [] (Int whole) ∷ variable_of file field (codes "_rest") (Long rest) ∷ [] in
    document_form file field field.slices n_b [] vars (is_led file field n_b least most h) (lit≤ tt) (All-from_recursion (λ (a : DocAtt). length a.name < 2 ^ 31) [] tt) (lit≤ tt)
    (All-from_recursion P vars (var_over file field [] (Int whole) (field.slices * n_b) h (lit≤ tt) wholes, (var_over file field (codes "_rest") (Long rest) (field.slices * n_b) h (lit≤ tt) rests, tt)))

-- a document stands for that with any other numbers
pub made_field : (file : NcFile) (field : FieldVar) (n_b : ℕ) (ints longs whole rest : List ℤ) → made_doc (of_lists whole rest) (field_document file field n_b ints longs) ≡ field_document file field n_b whole rest
unfolding field_document
made_field file field n_b ints longs whole rest = refl

few_atts : (fill : Option ℤ) → length (fill_atts fill) ≤ 1
few_atts None = lit≤ tt
few_atts (Some z) = lit≤ tt

short_atts : (fill : Option ℤ) → All (λ a. length a.name < 2 ^ 31) (fill_atts fill)
short_atts None = All-from_recursion (λ (a : DocAtt). length a.name < 2 ^ 31) [] tt
short_atts (Some z) = All-from_recursion (λ (a : DocAtt). length a.name < 2 ^ 31) (fill_atts (Some z)) (lit< tt, tt)

pub masked_field_form : (file : NcFile) (n_a : ℕ) (field : FieldVar) (n_b : ℕ) (fill : Option ℤ) (whole rest part : List ℤ) → IsFileHeader file → Fits file n_a field → 1 ≤ n_b → n_b ≤ 1048576 → length whole ≡ field.slices * n_b → length rest ≡ field.slices * n_b → length part ≡ field.slices * n_b
    → IsWellFormed (masked_field_document file field n_b fill whole rest part)
unfolding masked_field_document
masked_field_form file n_a field n_b fill whole rest part header fits least most wholes rests parts =
    let h = has_leading file n_a field header fits in
    let P : DocVar → Type 0 = IsVarOver (leading_ids file field) (field.slices * n_b) in
    let vars : List DocVar = variable_of file field [] (Int whole) ∷ variable_of file field (codes "_rest") (Long rest) ∷ variable_of file field (codes "_part") (Long part) ∷ [] in
    document_form file field field.slices n_b (fill_atts fill) vars (is_led file field n_b least most h) (few_atts fill) (short_atts fill) (lit≤ tt)
    (All-from_recursion P vars (
      var_over file field [] (Int whole) (field.slices * n_b) h (lit≤ tt) wholes,
      (var_over file field (codes "_rest") (Long rest) (field.slices * n_b) h (lit≤ tt) rests, (var_over file field (codes "_part") (Long part) (field.slices * n_b) h (lit≤ tt) parts, tt)),
    ))
