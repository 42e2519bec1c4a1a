use Rattle.std.proofs.Common.{refl}
use Rattle.tempest_top.specs.Scene.{scene}
use Rattle.tempest_top.proofs.FieldEnds.{comes_filled}
use Rattle.tempest_top.proofs.field.write_plain.Goals as goal

pub returns-in-Some-clause-comes : goal.returns-in-Some-clause-comes
returns-in-Some-clause-comes g c =
    let before = scene (g.F.Files.seen c.args.files.now) (g.O.Sink.seen c.args.out.now) (g.E.Sink.seen c.args.err.now) in
    let after = scene (g.F.Files.seen c.args.files.now) (g.O.Sink.seen c.args.out.now) (g.E.Sink.seen c.refuse_fill.new.err) in
    comes_filled c.args.map.now c.args.found.now c.args.field c.args.in_data.now c.args.file.now before after c.in-Some.place _ c.in-Some.ensures refl refl c.refuse_fill.ensures.status c.refuse_fill.ensures.line

pub returns-in-None-clause-comes : goal.returns-in-None-clause-comes
returns-in-None-clause-comes g c = c.write_unfilled.ensures.comes c.args.in_data.now
