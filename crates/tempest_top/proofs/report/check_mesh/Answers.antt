use Rattle.std.proofs.Common.{[], Some, None, refl}
use Rattle.vec_exact.specs.declared.RawMesh.{RawMesh}
use Rattle.command_line.specs.declared.choices.Chosen.TheVariants.{Check}
use Rattle.tempest_top.specs.Scene.{scene}
use Rattle.fault_lines.specs.Faults.{mesh_words}
use Rattle.tempest_top.specs.Inputs.{MeshFile}
use Rattle.tempest_top.specs.Outcome.{IsOutcomeOfReport}
use Rattle.tempest_top.specs.Promises.{IsPiecesText}
use Rattle.tempest_top.proofs.TwoMeshes.{mesh_input}
use Rattle.tempest_top.proofs.Coming.{comes_refused, comes_behind}
use Rattle.tempest_top.proofs.Keeping.{keeps}
use Rattle.tempest_top.proofs.report.check_mesh.Goals as goal

pub returns-in-Err-clause-kept : goal.returns-in-Err-clause-kept
returns-in-Err-clause-kept g c =
    let before = scene (g.F.Files.seen c.args.files.now) (g.O.Sink.seen c.args.out.now) (g.E.Sink.seen c.args.err.now) in
    let after = scene (g.F.Files.seen c.mesh_of.new.files) (g.O.Sink.seen c.args.out.now) (g.E.Sink.seen c.refuse_mesh.new.err) in
    let name = c.args.file.now in
    keeps (Some (Check name c.args.workers)) before after _ refl
    (comes_refused mesh_words name (λ (mesh : RawMesh). IsOutcomeOfReport mesh) (MeshFile name) [] IsPiecesText None before after c.in-Err.why _ (mesh_input name) c.in-Err.ensures.refusal c.in-Err.ensures.reads refl c.refuse_mesh.ensures.status c.refuse_mesh.ensures.line)

pub returns-clause-kept : goal.returns-clause-kept
returns-clause-kept g c =
    let before = scene (g.F.Files.seen c.args.files.now) (g.O.Sink.seen c.args.out.now) (g.E.Sink.seen c.args.err.now) in
    let mid = g.F.Files.seen c.mesh_of.new.files in
    let after = scene mid (g.O.Sink.seen c.tell_report-status.new.out) (g.E.Sink.seen c.tell_report-status.new.err) in
    let name = c.args.file.now in
    let load = c.in-Ok.ensures in
    keeps (Some (Check name c.args.workers)) before after _ refl
    (comes_behind mesh_words name (λ (mesh : RawMesh). IsOutcomeOfReport mesh) (MeshFile name) [] IsPiecesText None before mid after c.in-Ok.mesh _ (mesh_input name) load.mesh load.reads load.asked
    (c.tell_report-status.ensures.comes mid))
