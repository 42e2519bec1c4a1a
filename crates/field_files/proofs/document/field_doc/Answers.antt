use Rattle.std.proofs.Common.{sym, subst}
use Rattle.nc_write.specs.Form.{IsWellFormed}
use Rattle.field_files.proofs.FieldForm.{field_form}
use Rattle.field_files.proofs.document.field_doc.Goals as goal

pub returns-clause-well_formed : goal.returns-clause-well_formed
returns-clause-well_formed c =
    let r = c.requires in
    subst IsWellFormed (sym c.in_ok-doc.ensures)
    (field_form c.args.file.now r.field.0 c.args.field c.args.n_b c.args.whole c.args.rest r.header r.field.1 r.some_target r.few_targets r.whole r.rest)
