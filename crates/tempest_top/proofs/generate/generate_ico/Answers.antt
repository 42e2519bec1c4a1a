use Rattle.std.proofs.Common.{Some, Err, refl, ap, inl}
use Rattle.command_line.specs.declared.choices.Chosen.TheVariants.{Ico}
use Rattle.tempest_top.specs.Scene.{scene}
use Rattle.tempest_top.specs.Outcome.{IsOutcome}
use Rattle.tempest_top.specs.Promises.{IsMadeText}
use Rattle.tempest_top.proofs.Outcomes.{accepted_made}
use Rattle.tempest_top.proofs.Endings.{comes_mesh, comes_unmade}
use Rattle.tempest_top.proofs.Keeping.{keeps}
use Rattle.tempest_top.proofs.generate.generate_ico.Goals as goal

pub returns-in-Ok-clause-kept : goal.returns-in-Ok-clause-kept
returns-in-Ok-clause-kept g c =
    let chosen = Some (Ico c.args.res c.args.dual c.args.file.now) in
    let file = c.args.file.now in
    let before = scene (g.F.Files.seen c.args.files.now) (g.O.Sink.seen c.args.out.now) (g.E.Sink.seen c.args.err.now) in
    let after = scene (g.F.Files.seen c.write_mesh.new.files) (g.O.Sink.seen c.write_mesh.new.out) (g.E.Sink.seen c.write_mesh.new.err) in
    keeps chosen before after _ refl
    (comes_mesh IsMadeText file (IsOutcome chosen) before after c.in-Ok.mesh _ (c.in-Ok.mesh, c.in-Ok.ensures.mesh, accepted_made c.in-Ok.mesh file before.files.folder c.in-Ok.ensures.accepted) c.write_mesh.ensures.no_reads c.write_mesh.ensures.ends)

pub returns-in-Err-clause-kept : goal.returns-in-Err-clause-kept
returns-in-Err-clause-kept g c =
    let chosen = Some (Ico c.args.res c.args.dual c.args.file.now) in
    let before = scene (g.F.Files.seen c.args.files.now) (g.O.Sink.seen c.args.out.now) (g.E.Sink.seen c.args.err.now) in
    let after = scene (g.F.Files.seen c.args.files.now) (g.O.Sink.seen c.args.out.now) (g.E.Sink.seen c.refuse_made.new.err) in
    keeps chosen before after _ refl
    (comes_unmade (Some c.args.file.now) (IsOutcome chosen) before after c.in-Err.fault _ (λ e. c.in-Err.ensures.outer (ap Err e)) (λ fault e. let made = c.in-Err.ensures.fault fault (ap Err e) in (made.0, made.1, inl (fault, made.2, refl))) refl refl c.refuse_made.ensures.status c.refuse_made.ensures.line)
