use Rattle.std.proofs.Common.{refl, sym, subst}
use Rattle.map_rows.specs.Maps.{MapParts}
use Rattle.tempest_top.specs.Fields.{LiesOver}
use Rattle.tempest_top.specs.Scene.{scene}
use Rattle.tempest_top.proofs.Coming.{comes_stopped}
use Rattle.tempest_top.proofs.FieldEnds.{comes_of_ready}
use Rattle.tempest_top.proofs.field.write_unfilled.Goals as goal

pub returns-in_default-clause-comes : goal.returns-in_default-clause-comes
returns-in_default-clause-comes g c = λ in_data.
    comes_stopped _ _ _ _ (scene (g.F.Files.seen c.args.files.now) (g.O.Sink.seen c.args.out.now) (g.E.Sink.seen c.args.err.now)) (scene (g.F.Files.seen c.args.files.now) (g.O.Sink.seen c.args.out.now) (g.E.Sink.seen c.refuse_memory.new.err)) _ refl refl c.refuse_memory.ensures.status c.refuse_memory.ensures.line

pub write_by_targets-requires-clause-over : goal.write_by_targets-requires-clause-over
write_by_targets-requires-clause-over g c = subst (λ (m : MapParts). LiesOver m c.args.found.now c.args.field) (sym c.in-Ok.ensures) c.requires.over

pub returns-clause-comes : goal.returns-clause-comes
returns-clause-comes g c = λ in_data.
    let before = scene (g.F.Files.seen c.args.files.now) (g.O.Sink.seen c.args.out.now) (g.E.Sink.seen c.args.err.now) in
    let after = scene (g.F.Files.seen c.write_by_targets.new.files) (g.O.Sink.seen c.write_by_targets.new.out) (g.E.Sink.seen c.write_by_targets.new.err) in
    comes_of_ready c.args.map.now _ c.args.found.now c.args.field in_data c.args.file.now before after _ c.in-Ok.ensures (c.write_by_targets.ensures.comes in_data)
