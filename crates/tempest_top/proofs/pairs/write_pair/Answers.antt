use Rattle.std.proofs.Common.{◌∙◌, sym, refl}
use Rattle.remap_files.specs.InColumns.{IsInColumns}
use Rattle.tempest_top.specs.Scene.{scene}
use Rattle.tempest_top.proofs.Endings.{comes_of_overlap, comes_unmet}
use Rattle.tempest_top.proofs.pairs.write_pair.Goals as goal

pub returns-clause-comes : goal.returns-clause-comes
returns-clause-comes g c =
    let before = scene (g.F.Files.seen c.args.files.now) (g.O.Sink.seen c.args.out.now) (g.E.Sink.seen c.args.err.now) in
    let after = scene (g.F.Files.seen c.write_overlap.new.files) (g.O.Sink.seen c.write_overlap.new.out) (g.E.Sink.seen c.write_overlap.new.err) in
    let (o, right, sound, columns) = c.in-Ok.ensures.overlap in
    let held : IsInColumns o c.face_count-faces_a.result c.face_count-faces_b.result c.in-Ok.columns = record {
      sound = sound;
      source_faces = right.source_faces ∙ sym c.face_count-faces_a.ensures.count;
      target_faces = right.target_faces ∙ sym c.face_count-faces_b.ensures.count;
      pieces = columns;
    } in
    comes_of_overlap _ _ _ _ before after _ right sound.count (c.write_overlap.ensures.comes o held)

pub returns-in-Err-clause-comes : goal.returns-in-Err-clause-comes
returns-in-Err-clause-comes g c =
    let before = scene (g.F.Files.seen c.args.files.now) (g.O.Sink.seen c.args.out.now) (g.E.Sink.seen c.args.err.now) in
    let after = scene (g.F.Files.seen c.args.files.now) (g.O.Sink.seen c.args.out.now) (g.E.Sink.seen c.refuse_run.new.err) in
    comes_unmet _ _ _ before after c.in-Err.fault _ c.in-Err.ensures.refusal refl refl c.refuse_run.ensures.status c.refuse_run.ensures.line
