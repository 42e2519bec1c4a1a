use Rattle.std.proofs.Common.{rules, ◌≡◌, ◌≤◌, List, ℕ, length, refl, subst, arith}
use Rattle.nc_write.specs.File.{file_of}
use Rattle.nc_write.specs.Made.{made_doc}
use Rattle.tempest_top.specs.Scene.{scene}
use Rattle.fault_lines.specs.Lines.{PutsText}
use Rattle.fault_lines.specs.Faults.{length_text}
use Rattle.tempest_top.specs.Outcome.{written}
use Rattle.tempest_top.specs.Ends.{Ends}
use Rattle.tempest_top.proofs.FieldEnds.{comes_too_long, comes_put}
use Rattle.tempest_top.proofs.field.write_document.Goals as goal

pub returns-then-length-gt-MAX_FILE_LEN-clause-comes : goal.returns-then-length-gt-MAX_FILE_LEN-clause-comes
returns-then-length-gt-MAX_FILE_LEN-clause-comes g c = λ in_data.
    let before = scene (g.F.Files.seen c.args.files.now) (g.O.Sink.seen c.args.out.now) (g.E.Sink.seen c.args.err.now) in
    let after = scene (g.F.Files.seen c.args.files.now) (g.O.Sink.seen c.args.out.now) (g.E.Sink.seen c.refuse_length.new.err) in
    let name : c.as_str.result.now ≡ c.args.file.now = search rules in
    let put = subst (λ (file : List ℕ). PutsText before.err after.err (length_text file c.length_of_made-length.result)) name c.refuse_length.ensures.line in
    comes_too_long in_data _ _ _ before after _ _ (c.length_of_made-length.ensures (g.M.MadeNumbers.numbers c.args.made.now) c.requires.well_formed) c.if-length-gt-MAX_FILE_LEN.true refl refl c.refuse_length.ensures.status put

pub returns-clause-comes : goal.returns-clause-comes
returns-clause-comes g c = λ in_data.
    let doc = made_doc (g.M.MadeNumbers.numbers c.args.made.now) c.args.doc.now in
    let before = scene (g.F.Files.seen c.args.files.now) (g.O.Sink.seen c.args.out.now) (g.E.Sink.seen c.args.err.now) in
    let after = scene (g.F.Files.seen c.write_made_then_text.new.files) (g.O.Sink.seen c.write_made_then_text.new.out) (g.E.Sink.seen c.write_made_then_text.new.err) in
    let name : c.as_str-2.result.now ≡ c.args.file.now = search rules in
    let short : length (file_of doc) ≤ 2147483647 = omega (arith, (c.length_of_made-length.ensures (g.M.MadeNumbers.numbers c.args.made.now) c.requires.well_formed), c.if-length-gt-MAX_FILE_LEN.false) in
    let ends = subst (λ (file : List ℕ). Ends (written (record { name = file; bytes = file_of doc }) c.as_bytes.result.now before.files.folder) before after c.write_made_then_text.result) name c.write_made_then_text.ensures.ends in
    comes_put in_data _ _ _ before after (file_of doc) c.as_bytes.result.now _ short refl c.as_bytes.ensures.value c.write_made_then_text.ensures.no_reads ends
