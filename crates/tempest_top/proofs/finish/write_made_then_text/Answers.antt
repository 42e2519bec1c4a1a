use Rattle.std.proofs.Common.{rules, ◌++◌, codes, refl}
use Rattle.nc_write.specs.File.{file_of}
use Rattle.nc_write.specs.Made.{made_doc}
use Rattle.remap_io.specs.Causes.{Rose}
use Rattle.remap_io.specs.Folder.{IsPartlyReplaced}
use Rattle.fault_lines.specs.Lines.{PutsText}
use Rattle.tempest_top.specs.Scene.{scene}
use Rattle.fault_lines.proofs.Pieces.{text_of_two}
use Rattle.tempest_top.proofs.Written.{ends_written, ends_failed}
use Rattle.tempest_top.proofs.finish.write_made_then_text.Goals as goal

pub returns-in-Ok-clause-ends : goal.returns-in-Ok-clause-ends
returns-in-Ok-clause-ends g c =
    let before = scene (g.F.Files.seen c.args.files.now) (g.O.Sink.seen c.args.out.now) (g.E.Sink.seen c.args.err.now) in
    let after = scene (g.F.Files.seen c.replace_with.new.self) (g.O.Sink.seen c.put_text_alone.new.out) (g.E.Sink.seen c.put_text_alone.new.err) in
    ends_written (record { name = c.args.name.now; bytes = file_of (made_doc (g.M.MadeNumbers.numbers c.args.made.now) c.args.doc.now) }) c.args.text.now before after _ c.in-Ok.ensures.ok (c.put_text_alone.ensures.ends (g.F.Files.seen c.replace_with.new.self))

pub returns-in-Err-Failed-clause-ends : goal.returns-in-Err-Failed-clause-ends
returns-in-Err-Failed-clause-ends g c =
    let before = scene (g.F.Files.seen c.args.files.now) (g.O.Sink.seen c.args.out.now) (g.E.Sink.seen c.args.err.now) in
    let after = scene (g.F.Files.seen c.replace_with.new.self) (g.O.Sink.seen c.args.out.now) (g.E.Sink.seen c.put_line.new.err) in
    let part : IsPartlyReplaced before.files.folder c.args.name.now (file_of (made_doc (g.M.MadeNumbers.numbers c.args.made.now) c.args.doc.now)) after.files.folder = search rules in
    let rose : Rose before.files.write_faults after.files.write_faults = search rules in
    let put : PutsText before.err after.err (codes "write fault on " ++ c.args.name.now) = text_of_two (PutsText before.err after.err) (codes "write fault on ") c.args.name.now c.args.name.now refl c.put_line.ensures.line in
    ends_failed (record { name = c.args.name.now; bytes = file_of (made_doc (g.M.MadeNumbers.numbers c.args.made.now) c.args.doc.now) }) c.args.text.now before after part rose refl put
