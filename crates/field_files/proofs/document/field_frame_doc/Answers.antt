use Rattle.std.proofs.Common.{◌*◌, ℤ, pos, List, replicate, sym, ap, subst, ◌∙◌}
use Rattle.std.proofs.lemmas.List.{length-replicate}
use Rattle.nc_write.specs.Form.{IsWellFormed}
use Rattle.nc_write.specs.Made.{made_doc, of_lists}
use Rattle.nc_write.proofs.Made.{made_short}
use Rattle.field_files.proofs.FieldForm.{field_form, made_field}
use Rattle.field_files.proofs.document.field_frame_doc.Goals as goal

pub returns-clause-document : goal.returns-clause-document
returns-clause-document c = λ whole rest.
    ap (made_doc (of_lists whole rest)) c.in_ok-doc.ensures ∙ made_field c.args.file.now c.args.field c.args.n_b c.new.result.items c.new-2.result.items whole rest

pub returns-clause-well_formed : goal.returns-clause-well_formed
returns-clause-well_formed c = λ whole rest wholes rests.
    let r = c.requires in
    subst IsWellFormed (sym (ap (made_doc (of_lists whole rest)) c.in_ok-doc.ensures ∙ made_field c.args.file.now c.args.field c.args.n_b c.new.result.items c.new-2.result.items whole rest))
    (field_form c.args.file.now r.field.0 c.args.field c.args.n_b whole rest r.header r.field.1 r.some_target r.few_targets wholes rests)

pub returns-clause-short : goal.returns-clause-short
returns-clause-short c =
    let r = c.requires in
    let some : List ℤ = replicate (c.args.field.slices * c.args.n_b) (pos 0) in
    let count = length-replicate (c.args.field.slices * c.args.n_b) (pos 0) in
    let formed : IsWellFormed (made_doc (of_lists some some) c.in_ok-doc.doc) = subst IsWellFormed (sym (ap (made_doc (of_lists some some)) c.in_ok-doc.ensures ∙ made_field c.args.file.now c.args.field c.args.n_b c.new.result.items c.new-2.result.items some some))
    (field_form c.args.file.now r.field.0 c.args.field c.args.n_b some some r.header r.field.1 r.some_target r.few_targets count count) in
    made_short (of_lists some some) c.in_ok-doc.doc formed.short_lists
