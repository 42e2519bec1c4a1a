use Rattle.std.proofs.Common.{Some, refl}
use Rattle.command_line.specs.declared.choices.Chosen.TheVariants.{Cs}
use Rattle.tempest_top.specs.Scene.{scene}
use Rattle.tempest_top.specs.Outcome.{IsOutcome}
use Rattle.tempest_top.specs.Promises.{IsOwnText}
use Rattle.tempest_top.proofs.Endings.{comes_mesh}
use Rattle.tempest_top.proofs.Keeping.{keeps}
use Rattle.tempest_top.proofs.generate.generate_cs.Goals as goal

pub returns-clause-kept : goal.returns-clause-kept
returns-clause-kept g c =
    let chosen = Some (Cs c.args.res c.args.file.now) in
    let before = scene (g.F.Files.seen c.args.files.now) (g.O.Sink.seen c.args.out.now) (g.E.Sink.seen c.args.err.now) in
    let after = scene (g.F.Files.seen c.write_sphere.new.files) (g.O.Sink.seen c.write_sphere.new.out) (g.E.Sink.seen c.write_sphere.new.err) in
    keeps chosen before after _ refl (comes_mesh (IsOwnText chosen) c.args.file.now (IsOutcome chosen) before after _ _ refl c.write_sphere.ensures.no_reads c.write_sphere.ensures.ends)
