use Rattle.std.proofs.Common.{◌∙◌, ℤ, List, Option, Result, Ok, length, ap, ap₂, sym}
use Rattle.field_files.specs.declared.FieldData.{FieldData}
use Rattle.field_files.specs.declared.FieldFault.{FieldFault}
use Rattle.field_files.specs.FieldIn.{if_fitting, if_named, field_in}
use Rattle.field_files.proofs.reading.read_field.Goals as goal

pub find_field-requires : goal.find_field-requires
find_field-requires c = record { sound = c.law_first_fault.ensures.sound c.args.bytes.now (length c.args.bytes.now) c.args.file.now c.requires.header }

pub returns-clause-field : goal.returns-clause-field
unfolding field_in
returns-clause-field c =
    let file = c.args.file.now in
    let bytes = c.args.bytes.now in
    let field = c.in-Ok-fit_field.field in
    ap (if_named file bytes c.args.n_a) (sym c.in-Ok.ensures.var)
    ∙ ap (if_fitting file bytes c.in-Ok.place) (sym c.in-Ok-fit_field.ensures.over)
    ∙ ap₂ (λ (v : List ℤ) (f : Option ℤ). let r : Result FieldData FieldFault = Ok (record { field = field; values = v; fill = f }) in r) (sym c.in_ok-read_values.ensures) (sym c.fill_value.ensures.fill)
