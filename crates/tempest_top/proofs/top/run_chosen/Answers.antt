use Rattle.std.proofs.Common.{Some, sym, subst}
use Rattle.command_line.specs.declared.choices.Chosen.{Chosen}
use Rattle.tempest_top.specs.Scene.{scene}
use Rattle.tempest_top.specs.Promises.{Keeps}
use Rattle.tempest_top.proofs.top.run_chosen.Goals as goal

pub returns-in-SelfRun-clause-kept : goal.returns-in-SelfRun-clause-kept
returns-in-SelfRun-clause-kept g c =
    let files = g.F.Files.seen c.args.files.now in
    let before = scene files (g.O.Sink.seen c.args.out.now) (g.E.Sink.seen c.args.err.now) in
    let after = scene files (g.O.Sink.seen c.self_run.new.out) (g.E.Sink.seen c.self_run.new.err) in
    subst (λ (chosen : Chosen). Keeps (Some chosen) before after c.self_run.result) (sym c.in-SelfRun.is) (c.self_run.ensures.kept files)
