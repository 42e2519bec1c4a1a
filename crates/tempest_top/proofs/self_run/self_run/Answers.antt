use Rattle.std.proofs.Common.{◌*◌, [], Some, None, Err, refl, ap, inl}
use Rattle.gen_cs.specs.CubedSphere.{cubed_sphere}
use Rattle.gen_rll.specs.LatitudeLongitude.{latitude_longitude}
use Rattle.command_line.specs.declared.choices.Chosen.TheVariants.{SelfRun}
use Rattle.tempest_top.specs.Scene.{scene}
use Rattle.tempest_top.specs.Outcome.{IsOutcome}
use Rattle.tempest_top.specs.Promises.{IsSelfRunText}
use Rattle.tempest_top.proofs.Coming.{comes_stopped}
use Rattle.tempest_top.proofs.SelfRunEnds.{comes_untargeted, comes_run}
use Rattle.tempest_top.proofs.Keeping.{keeps}
use Rattle.tempest_top.proofs.self_run.self_run.Goals as goal

pub returns-in_default-clause-kept : goal.returns-in_default-clause-kept
returns-in_default-clause-kept g c = λ files.
    let chosen = Some (SelfRun c.args.n c.args.workers) in
    let before = scene files (g.O.Sink.seen c.args.out.now) (g.E.Sink.seen c.args.err.now) in
    let after = scene files (g.O.Sink.seen c.args.out.now) (g.E.Sink.seen c.refuse_memory.new.err) in
    keeps chosen before after _ refl (comes_stopped [] IsSelfRunText None (IsOutcome chosen) before after _ refl refl c.refuse_memory.ensures.status c.refuse_memory.ensures.line)

pub returns-in-Err-clause-kept : goal.returns-in-Err-clause-kept
returns-in-Err-clause-kept g c = λ files.
    let chosen = Some (SelfRun c.args.n c.args.workers) in
    let before = scene files (g.O.Sink.seen c.args.out.now) (g.E.Sink.seen c.args.err.now) in
    let after = scene files (g.O.Sink.seen c.args.out.now) (g.E.Sink.seen c.refuse_made.new.err) in
    keeps chosen before after _ refl
    (comes_untargeted (IsOutcome chosen) before after c.in-Err.fault _ (λ e. c.in-Err.ensures.outer (ap Err e)) (λ fault e. inl (fault, c.in-Err.ensures.fault fault (ap Err e), refl)) refl refl c.refuse_made.ensures.status c.refuse_made.ensures.line)

pub returns-clause-kept : goal.returns-clause-kept
returns-clause-kept g c = λ files.
    let n = c.args.n in
    let before = scene files (g.O.Sink.seen c.args.out.now) (g.E.Sink.seen c.args.err.now) in
    let after = scene files (g.O.Sink.seen c.run_chain-status.new.out) (g.E.Sink.seen c.run_chain-status.new.err) in
    keeps (Some (SelfRun n c.args.workers)) before after _ refl
    (comes_run c.in-Ok.source c.in-Ok-make.mesh (cubed_sphere n) (latitude_longitude (4 * n) (2 * n)) before after _ c.in-Ok.ensures.mesh c.in-Ok-make.ensures.mesh c.in-Ok-make.ensures.accepted (c.run_chain-status.ensures.comes files))
