use Rattle.std.proofs.Common.{rules, ◌≡◌, ◌≤◌, ◌∙◌, ℕ, List, length, refl, ap, subst, arith}
use Rattle.nc_write.specs.File.{file_of}
use Rattle.remap_files.specs.OverlapDocument.{overlap_document}
use Rattle.tempest_top.specs.Outcome.{written}
use Rattle.tempest_top.specs.Ends.{Ends}
use Rattle.tempest_top.specs.Scene.{scene}
use Rattle.fault_lines.specs.Lines.{PutsText}
use Rattle.fault_lines.specs.Faults.{length_text}
use Rattle.tempest_top.proofs.Coming.{comes_stopped}
use Rattle.tempest_top.proofs.Endings.{comes_long, comes_written}
use Rattle.tempest_top.proofs.pairs.write_overlap.Goals as goal

pub returns-then-length-gt-MAX_FILE_LEN-clause-comes : goal.returns-then-length-gt-MAX_FILE_LEN-clause-comes
returns-then-length-gt-MAX_FILE_LEN-clause-comes g c = λ o h.
    let before = scene (g.F.Files.seen c.args.files.now) (g.O.Sink.seen c.args.out.now) (g.E.Sink.seen c.args.err.now) in
    let after = scene (g.F.Files.seen c.args.files.now) (g.O.Sink.seen c.args.out.now) (g.E.Sink.seen c.refuse_length.new.err) in
    let name : c.as_str.result.now ≡ c.args.file.now = search rules in
    let put = subst (λ (file : List ℕ). PutsText before.err after.err (length_text file c.columns_length-length.result)) name c.refuse_length.ensures.line in
    comes_long _ _ _ before after _ _ (c.columns_length-length.ensures o h) c.if-length-gt-MAX_FILE_LEN.true refl refl c.refuse_length.ensures.status put

pub returns-in_default-clause-comes : goal.returns-in_default-clause-comes
returns-in_default-clause-comes g c = λ o h.
    comes_stopped _ _ _ _ (scene (g.F.Files.seen c.args.files.now) (g.O.Sink.seen c.args.out.now) (g.E.Sink.seen c.args.err.now)) (scene (g.F.Files.seen c.args.files.now) (g.O.Sink.seen c.args.out.now) (g.E.Sink.seen c.refuse_memory.new.err)) _ refl refl c.refuse_memory.ensures.status c.refuse_memory.ensures.line

pub returns-clause-comes : goal.returns-clause-comes
returns-clause-comes g c = λ o h.
    let doc = overlap_document o in
    let before = scene (g.F.Files.seen c.args.files.now) (g.O.Sink.seen c.args.out.now) (g.E.Sink.seen c.args.err.now) in
    let after = scene (g.F.Files.seen c.write_then_text.new.files) (g.O.Sink.seen c.write_then_text.new.out) (g.E.Sink.seen c.write_then_text.new.err) in
    let name : c.as_str-2.result.now ≡ c.args.file.now = search rules in
    let short : length (file_of doc) ≤ 2147483647 = omega (arith, c.columns_length-length.ensures o h, c.if-length-gt-MAX_FILE_LEN.false) in
    let ends = subst (λ (file : List ℕ). Ends (written (record { name = file; bytes = file_of c.in-Ok.doc }) c.as_bytes.result.now before.files.folder) before after c.write_then_text.result) name c.write_then_text.ensures.ends in
    comes_written doc _ c.args.file.now before after (file_of c.in-Ok.doc) c.as_bytes.result.now _ short (ap file_of (c.in-Ok.ensures.document o h)) (c.as_bytes.ensures.value ∙ c.in-Ok.ensures.text o h) c.write_then_text.ensures.no_reads ends
