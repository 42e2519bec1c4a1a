use Rattle.std.proofs.Common.{◌≡◌, ◌∙◌, ℕ, refl, ap, subst}
use Rattle.map_rows.specs.Maps.{MapParts}
use Rattle.field_files.specs.FieldShapes.{field_over}
use Rattle.tempest_top.specs.Scene.{scene}
use Rattle.fault_lines.specs.Lines.{PutsText}
use Rattle.tempest_top.specs.FieldFaults.{no_fit_text}
use Rattle.tempest_top.proofs.FieldEnds.{comes_no_fit, comes_fit_plain, comes_fit_masked}
use Rattle.tempest_top.proofs.LaidOver.{lies_over}
use Rattle.tempest_top.proofs.field.write_field.Goals as goal

pub returns-in-Err-clause-comes : goal.returns-in-Err-clause-comes
returns-in-Err-clause-comes g c =
    let before = scene (g.F.Files.seen c.args.files.now) (g.O.Sink.seen c.args.out.now) (g.E.Sink.seen c.args.err.now) in
    let after = scene (g.F.Files.seen c.args.files.now) (g.O.Sink.seen c.args.out.now) (g.E.Sink.seen c.refuse_no_fit.new.err) in
    let n : c.map.inside.n_a ≡ c.args.map.now.n_a = ap (λ (m : MapParts). m.n_a) c.map.view_is in
    let fit = c.in-Err.ensures.over ∙ ap (field_over c.args.found.now.file c.args.found.now.var) n in
    let put = subst (λ (k : ℕ). PutsText before.err after.err (no_fit_text c.args.in_data.now c.in-Err.no_fit.last_len k)) n c.refuse_no_fit.ensures.line in
    comes_no_fit c.args.masked c.args.map.now c.args.found.now c.in-Err.no_fit c.args.in_data.now c.args.file.now before after _ fit refl refl c.refuse_no_fit.ensures.status put

pub write_masked-requires : goal.write_masked-requires
write_masked-requires g c =
    let n : c.map.inside.n_a ≡ c.args.map.now.n_a = ap (λ (m : MapParts). m.n_a) c.map.view_is in
    lies_over c.args.map.now c.map.inside.n_a c.args.found.now c.in-Ok.field n c.requires c.in-Ok.ensures.fits c.in-Ok.ensures.pieces

pub returns-then-masked-clause-comes : goal.returns-then-masked-clause-comes
returns-then-masked-clause-comes g c =
    let before = scene (g.F.Files.seen c.args.files.now) (g.O.Sink.seen c.args.out.now) (g.E.Sink.seen c.args.err.now) in
    let after = scene (g.F.Files.seen c.write_masked.new.files) (g.O.Sink.seen c.write_masked.new.out) (g.E.Sink.seen c.write_masked.new.err) in
    let n : c.map.inside.n_a ≡ c.args.map.now.n_a = ap (λ (m : MapParts). m.n_a) c.map.view_is in
    let fit = c.in-Ok.ensures.over ∙ ap (field_over c.args.found.now.file c.args.found.now.var) n in
    comes_fit_masked c.args.masked c.args.map.now c.args.found.now c.in-Ok.field c.args.in_data.now c.args.file.now before after _ c.if-masked.true fit (c.write_masked.ensures.comes c.args.in_data.now)

pub write_plain-requires : goal.write_plain-requires
write_plain-requires g c =
    let n : c.map.inside.n_a ≡ c.args.map.now.n_a = ap (λ (m : MapParts). m.n_a) c.map.view_is in
    lies_over c.args.map.now c.map.inside.n_a c.args.found.now c.in-Ok.field n c.requires c.in-Ok.ensures.fits c.in-Ok.ensures.pieces

pub returns-clause-comes : goal.returns-clause-comes
returns-clause-comes g c =
    let before = scene (g.F.Files.seen c.args.files.now) (g.O.Sink.seen c.args.out.now) (g.E.Sink.seen c.args.err.now) in
    let after = scene (g.F.Files.seen c.write_plain.new.files) (g.O.Sink.seen c.write_plain.new.out) (g.E.Sink.seen c.write_plain.new.err) in
    let n : c.map.inside.n_a ≡ c.args.map.now.n_a = ap (λ (m : MapParts). m.n_a) c.map.view_is in
    let fit = c.in-Ok.ensures.over ∙ ap (field_over c.args.found.now.file c.args.found.now.var) n in
    comes_fit_plain c.args.masked c.args.map.now c.args.found.now c.in-Ok.field c.args.in_data.now c.args.file.now before after _ c.if-masked.false fit c.write_plain.ensures.comes
