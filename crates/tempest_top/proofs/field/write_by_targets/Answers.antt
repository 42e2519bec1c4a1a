use Rattle.std.proofs.Common.{rules, ◌≡◌, ◌∙◌, ℤ, List, refl, sym, ap, subst}
use Rattle.map_rows.specs.Maps.{MapParts}
use Rattle.map_rows.specs.Application.{application_of, wholes_of, rests_of}
use Rattle.nc_write.specs.Form.{IsWellFormed}
use Rattle.nc_write.specs.Made.{of_lists, made_doc}
use Rattle.tempest_top.specs.Scene.{scene}
use Rattle.tempest_top.specs.Fields.{LiesOver, plain_numbers, plain_document, plain_text}
use Rattle.tempest_top.proofs.Coming.{comes_stopped}
use Rattle.tempest_top.proofs.FieldEnds.{comes_plain}
use Rattle.tempest_top.proofs.field.write_by_targets.Goals as goal

pub plain_field-requires : goal.plain_field-requires
plain_field-requires g c = subst (λ (m : MapParts). LiesOver m c.args.found.now c.args.field) (sym c.map.ensures) c.requires.over

pub returns-in_default-clause-comes : goal.returns-in_default-clause-comes
returns-in_default-clause-comes g c = λ in_data.
    comes_stopped _ _ _ _ (scene (g.F.Files.seen c.args.files.now) (g.O.Sink.seen c.args.out.now) (g.E.Sink.seen c.args.err.now)) (scene (g.F.Files.seen c.args.files.now) (g.O.Sink.seen c.args.out.now) (g.E.Sink.seen c.refuse_memory.new.err)) _ refl refl c.refuse_memory.ensures.status c.refuse_memory.ensures.line

pub write_document-requires-clause-well_formed : goal.write_document-requires-clause-well_formed
write_document-requires-clause-well_formed g c =
    let slices = c.args.field.slices in
    let values : c.deref.result.now ≡ c.args.found.now.values = search rules in
    subst (λ (m : MapParts). IsWellFormed (made_doc (of_lists (wholes_of (application_of m slices c.deref.result.now)) (rests_of (application_of m slices c.deref.result.now))) c.in-Ok.doc)) c.map.ensures
    (subst (λ (xs : List ℤ). IsWellFormed (made_doc (of_lists (wholes_of (application_of c.map.result.now slices xs)) (rests_of (application_of c.map.result.now slices xs))) c.in-Ok.doc)) (sym values) c.in-Ok.ensures.well_formed)

pub returns-clause-comes : goal.returns-clause-comes
returns-clause-comes g c = λ in_data.
    let m = c.args.targets.now in
    let found = c.args.found.now in
    let field = c.args.field in
    let slices = field.slices in
    let before = scene (g.F.Files.seen c.args.files.now) (g.O.Sink.seen c.args.out.now) (g.E.Sink.seen c.args.err.now) in
    let after = scene (g.F.Files.seen c.write_document.new.files) (g.O.Sink.seen c.write_document.new.out) (g.E.Sink.seen c.write_document.new.err) in
    let made = c.in-Ok.ensures in
    let values : c.deref.result.now ≡ found.values = search rules in
    let document : made_doc (plain_numbers m found field) c.in-Ok.doc ≡ plain_document m found field =
    subst (λ (p : MapParts). made_doc (plain_numbers p found field) c.in-Ok.doc ≡ plain_document p found field) c.map.ensures made.document in
    let doc = ap (λ (xs : List ℤ). made_doc (of_lists (wholes_of (application_of m slices xs)) (rests_of (application_of m slices xs))) c.in-Ok.doc) values ∙ document in
    comes_plain m found field in_data c.args.file.now before after _ (made_doc (of_lists (wholes_of (application_of m slices c.deref.result.now)) (rests_of (application_of m slices c.deref.result.now))) c.in-Ok.doc) c.as_str.result.now c.requires.unfilled doc (c.as_str.ensures.value ∙ made.text ∙ ap (λ (p : MapParts). plain_text p found field) c.map.ensures) (c.write_document.ensures.comes in_data)
