use Rattle.std.proofs.Common.{Some, None, refl}
use Rattle.command_line.specs.declared.choices.Chosen.TheVariants.{Coverage}
use Rattle.tempest_top.specs.Scene.{scene}
use Rattle.tempest_top.specs.Outcome.{IsOutcomeOfCoverage}
use Rattle.tempest_top.specs.Promises.{NoText}
use Rattle.tempest_top.proofs.TwoMeshes.{comes_first, comes_second, comes_both}
use Rattle.tempest_top.proofs.Keeping.{keeps}
use Rattle.tempest_top.proofs.cover.check_coverage.Goals as goal

pub returns-in-Err-clause-kept : goal.returns-in-Err-clause-kept
returns-in-Err-clause-kept g c =
    let before = scene (g.F.Files.seen c.args.files.now) (g.O.Sink.seen c.args.out.now) (g.E.Sink.seen c.args.err.now) in
    let after = scene (g.F.Files.seen c.mesh_of.new.files) (g.O.Sink.seen c.args.out.now) (g.E.Sink.seen c.refuse_mesh.new.err) in
    keeps (Some (Coverage c.args.a.now c.args.b.now)) before after _ refl
    (comes_first IsOutcomeOfCoverage NoText None c.args.a.now c.args.b.now before after c.in-Err.why _ c.in-Err.ensures.refusal c.in-Err.ensures.reads refl c.refuse_mesh.ensures.status c.refuse_mesh.ensures.line)

pub returns-in-Err-mesh_of-clause-kept : goal.returns-in-Err-mesh_of-clause-kept
returns-in-Err-mesh_of-clause-kept g c =
    let before = scene (g.F.Files.seen c.args.files.now) (g.O.Sink.seen c.args.out.now) (g.E.Sink.seen c.args.err.now) in
    let after = scene (g.F.Files.seen c.mesh_of-2.new.files) (g.O.Sink.seen c.args.out.now) (g.E.Sink.seen c.refuse_mesh-in-Err-mesh_of.new.err) in
    let first = c.in-Ok.ensures in
    let load = c.in-Err-mesh_of.ensures in
    keeps (Some (Coverage c.args.a.now c.args.b.now)) before after _ refl
    (comes_second IsOutcomeOfCoverage NoText None c.args.a.now c.args.b.now before (g.F.Files.seen c.mesh_of.new.files) after c.in-Ok.mesh c.in-Err-mesh_of.why _ first.mesh first.reads first.asked load.refusal load.reads refl
    c.refuse_mesh-in-Err-mesh_of.ensures.status c.refuse_mesh-in-Err-mesh_of.ensures.line)

pub returns-clause-kept : goal.returns-clause-kept
returns-clause-kept g c =
    let before = scene (g.F.Files.seen c.args.files.now) (g.O.Sink.seen c.args.out.now) (g.E.Sink.seen c.args.err.now) in
    let after = scene (g.F.Files.seen c.mesh_of-2.new.files) (g.O.Sink.seen c.tell_coverage-status.new.out) (g.E.Sink.seen c.tell_coverage-status.new.err) in
    let first = c.in-Ok.ensures in
    let second = c.in-Ok-mesh_of.ensures in
    keeps (Some (Coverage c.args.a.now c.args.b.now)) before after _ refl
    (comes_both IsOutcomeOfCoverage NoText None c.args.a.now c.args.b.now before (g.F.Files.seen c.mesh_of.new.files) (g.F.Files.seen c.mesh_of-2.new.files) after c.in-Ok.mesh c.in-Ok-mesh_of.mesh _ first.mesh first.reads first.asked second.mesh second.reads second.asked
    (c.tell_coverage-status.ensures.comes (g.F.Files.seen c.mesh_of-2.new.files)))
