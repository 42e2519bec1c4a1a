use Rattle.std.proofs.Common.{sym, subst}
use Rattle.nc_write.specs.declared.NcDoc.{NcDoc}
use Rattle.nc_write.specs.File.{file_of}
use Rattle.nc_write.specs.Form.{IsWellFormed}
use Rattle.nc_write.proofs.Made.{listed_doc}
use Rattle.tempest_top.specs.Scene.{scene}
use Rattle.tempest_top.specs.Outcome.{written}
use Rattle.tempest_top.specs.Ends.{Ends}
use Rattle.tempest_top.proofs.finish.write_then_text.Goals as goal

pub write_made_then_text-requires : goal.write_made_then_text-requires
write_made_then_text-requires g c = subst IsWellFormed (sym (listed_doc c.args.doc.now)) c.requires

pub returns-clause-ends : goal.returns-clause-ends
returns-clause-ends g c =
    let before = scene (g.F.Files.seen c.args.files.now) (g.O.Sink.seen c.args.out.now) (g.E.Sink.seen c.args.err.now) in
    let after = scene (g.F.Files.seen c.write_made_then_text.new.files) (g.O.Sink.seen c.write_made_then_text.new.out) (g.E.Sink.seen c.write_made_then_text.new.err) in
    subst (λ (d : NcDoc). Ends (written (record { name = c.args.name.now; bytes = file_of d }) c.args.text.now before.files.folder) before after c.write_made_then_text.result) (listed_doc c.args.doc.now) c.write_made_then_text.ensures.ends
