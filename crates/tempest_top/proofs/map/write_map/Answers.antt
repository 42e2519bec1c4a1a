use Rattle.std.proofs.Common.{rules, ◌≡◌, ◌∙◌, List, ℕ, refl, ap, subst}
use Rattle.nc_write.specs.File.{file_of}
use Rattle.tempest_top.specs.Scene.{scene}
use Rattle.tempest_top.specs.Outcome.{written}
use Rattle.tempest_top.specs.Ends.{Ends}
use Rattle.tempest_top.proofs.Coming.{comes_stopped}
use Rattle.tempest_top.proofs.MapEnds.{comes_mapped}
use Rattle.tempest_top.proofs.map.write_map.Goals as goal

pub returns-in_default-clause-comes : goal.returns-in_default-clause-comes
returns-in_default-clause-comes g c = λ a b overlap ov_mesh mappable is.
    comes_stopped _ _ _ _ (scene (g.F.Files.seen c.args.files.now) (g.O.Sink.seen c.args.out.now) (g.E.Sink.seen c.args.err.now)) (scene (g.F.Files.seen c.args.files.now) (g.O.Sink.seen c.args.out.now) (g.E.Sink.seen c.refuse_memory.new.err)) _ refl refl c.refuse_memory.ensures.status c.refuse_memory.ensures.line

pub returns-clause-comes : goal.returns-clause-comes
returns-clause-comes g c = λ a b overlap ov_mesh mappable is.
    let before = scene (g.F.Files.seen c.args.files.now) (g.O.Sink.seen c.args.out.now) (g.E.Sink.seen c.args.err.now) in
    let after = scene (g.F.Files.seen c.write_then_text.new.files) (g.O.Sink.seen c.write_then_text.new.out) (g.E.Sink.seen c.write_then_text.new.err) in
    let name : c.as_str.result.now ≡ c.args.file.now = search rules in
    let ends = subst (λ (file : List ℕ). Ends (written (record { name = file; bytes = file_of c.in-Ok.doc }) c.as_bytes.result.now before.files.folder) before after c.write_then_text.result) name c.write_then_text.ensures.ends in
    let made = c.in-Ok.ensures in
    comes_mapped a b overlap c.args.map ov_mesh c.args.file.now before after (file_of c.in-Ok.doc) c.as_bytes.result.now _ mappable is made.short (ap file_of made.document) (c.as_bytes.ensures.value ∙ made.text) c.write_then_text.ensures.no_reads ends
