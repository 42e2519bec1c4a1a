use Rattle.std.proofs.Common.{◌∙◌, refl, sym, subst}
use Rattle.nc_write.specs.Form.{IsWellFormed}
use Rattle.nc_write.proofs.Made.{listed_doc}
use Rattle.tempest_top.specs.Scene.{scene}
use Rattle.tempest_top.proofs.Coming.{comes_stopped}
use Rattle.tempest_top.proofs.FieldEnds.{comes_masked}
use Rattle.tempest_top.proofs.field.write_masked.Goals as goal

pub returns-in_default-clause-comes : goal.returns-in_default-clause-comes
returns-in_default-clause-comes g c = λ in_data.
    comes_stopped _ _ _ _ (scene (g.F.Files.seen c.args.files.now) (g.O.Sink.seen c.args.out.now) (g.E.Sink.seen c.args.err.now)) (scene (g.F.Files.seen c.args.files.now) (g.O.Sink.seen c.args.out.now) (g.E.Sink.seen c.refuse_memory.new.err)) _ refl refl c.refuse_memory.ensures.status c.refuse_memory.ensures.line

pub returns-clause-comes : goal.returns-clause-comes
returns-clause-comes g c = λ in_data.
    let before = scene (g.F.Files.seen c.args.files.now) (g.O.Sink.seen c.args.out.now) (g.E.Sink.seen c.args.err.now) in
    let after = scene (g.F.Files.seen c.write_document.new.files) (g.O.Sink.seen c.write_document.new.out) (g.E.Sink.seen c.write_document.new.err) in
    let made = c.in-Ok.ensures in
    comes_masked c.args.map.now c.args.found.now c.args.field in_data c.args.file.now before after _ _ c.as_str.result.now (listed_doc c.in-Ok.doc ∙ made.document) (c.as_str.ensures.value ∙ made.text) (c.write_document.ensures.comes in_data)

pub write_document-requires-clause-well_formed : goal.write_document-requires-clause-well_formed
write_document-requires-clause-well_formed g c = subst IsWellFormed (sym (listed_doc c.in-Ok.doc)) c.in-Ok.ensures.well_formed
