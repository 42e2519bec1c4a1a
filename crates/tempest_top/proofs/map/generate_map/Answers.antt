use Rattle.std.proofs.Common.{rules, ◌≡◌, ℕ, List, Some, refl, subst}
use Rattle.vec_exact.specs.declared.RawMesh.{RawMesh}
use Rattle.clip.specs.Overlaps.{OverlapParts}
use Rattle.command_line.specs.declared.choices.Chosen.TheVariants.{OfflineMap}
use Rattle.tempest_top.specs.Scene.{scene}
use Rattle.fault_lines.specs.RowFaults.{IsMapText}
use Rattle.tempest_top.specs.MapFaults.{overlap_words}
use Rattle.tempest_top.specs.MapReading.{IsMapOfFile, IsNoMap}
use Rattle.tempest_top.specs.Inputs.{OverlapFile}
use Rattle.tempest_top.specs.Outcome.{IsOutcomeOfMap}
use Rattle.tempest_top.proofs.MapEnds.{Asked, AskedUnlessRefused, overlap_input, comes_of_no_map}
use Rattle.tempest_top.proofs.ThreeFiles.{comes_of_first, comes_of_second, comes_of_all}
use Rattle.tempest_top.proofs.Keeping.{keeps}
use Rattle.tempest_top.proofs.map.generate_map.Goals as goal

pub returns-in-Err-clause-kept : goal.returns-in-Err-clause-kept
returns-in-Err-clause-kept g c =
    let before = scene (g.F.Files.seen c.args.files.now) (g.O.Sink.seen c.args.out.now) (g.E.Sink.seen c.args.err.now) in
    let after = scene (g.F.Files.seen c.mesh_of.new.files) (g.O.Sink.seen c.args.out.now) (g.E.Sink.seen c.refuse_mesh.new.err) in
    let a = c.args.a.now in
    let b = c.args.b.now in
    let ov = c.args.ov_mesh.now in
    let file = c.args.file.now in
    let load = c.in-Err.ensures in
    keeps (Some (OfflineMap a b ov file)) before after _ refl
    (comes_of_first overlap_words (OverlapFile ov) ov (overlap_input ov) (λ (source target : RawMesh) (overlap : OverlapParts). IsOutcomeOfMap source target overlap ov file) (IsMapText ov) (Some file) a b before after c.in-Err.why _
    (record { refused = load.refusal; reads = load.reads; out = refl; answer = c.refuse_mesh.ensures.status; line = c.refuse_mesh.ensures.line }))

pub returns-in-Err-mesh_of-clause-kept : goal.returns-in-Err-mesh_of-clause-kept
returns-in-Err-mesh_of-clause-kept g c =
    let before = scene (g.F.Files.seen c.args.files.now) (g.O.Sink.seen c.args.out.now) (g.E.Sink.seen c.args.err.now) in
    let after = scene (g.F.Files.seen c.mesh_of-2.new.files) (g.O.Sink.seen c.args.out.now) (g.E.Sink.seen c.refuse_mesh-in-Err-mesh_of.new.err) in
    let a = c.args.a.now in
    let b = c.args.b.now in
    let ov = c.args.ov_mesh.now in
    let file = c.args.file.now in
    let first = c.in-Ok.ensures in
    let load = c.in-Err-mesh_of.ensures in
    let refuse = c.refuse_mesh-in-Err-mesh_of.ensures in
    keeps (Some (OfflineMap a b ov file)) before after _ refl
    (comes_of_second overlap_words (OverlapFile ov) ov (overlap_input ov) (λ (source target : RawMesh) (overlap : OverlapParts). IsOutcomeOfMap source target overlap ov file) (IsMapText ov) (Some file) a b before (g.F.Files.seen c.mesh_of.new.files) after c.in-Ok.mesh c.in-Err-mesh_of.why _
    (record { holds = first.mesh; reads = first.reads; asked = first.asked })
    (record { refused = load.refusal; reads = load.reads; out = refl; answer = refuse.status; line = refuse.line }))

pub returns-in-Err-made-clause-kept : goal.returns-in-Err-made-clause-kept
returns-in-Err-made-clause-kept g c =
    let before = scene (g.F.Files.seen c.args.files.now) (g.O.Sink.seen c.args.out.now) (g.E.Sink.seen c.args.err.now) in
    let last = g.F.Files.seen c.mesh_of-2.new.files in
    let end = g.F.Files.seen c.map_of_file-made.new.files in
    let after = scene end (g.O.Sink.seen c.args.out.now) (g.E.Sink.seen c.refuse_no_map.new.err) in
    let a = c.args.a.now in
    let b = c.args.b.now in
    let ov = c.args.ov_mesh.now in
    let file = c.args.file.now in
    let source = c.in-Ok.mesh in
    let target = c.in-Ok-mesh_of.mesh in
    let why = c.in-Err-made.why in
    let name : c.as_str.result.now ≡ ov = search rules in
    let first = c.in-Ok.ensures in
    let second = c.in-Ok-mesh_of.ensures in
    let third = c.in-Err-made.ensures in
    let found : IsNoMap last end ov source target why = subst (λ (n : List ℕ). IsNoMap last end n source target why) name third.why in
    let asked : AskedUnlessRefused last end ov why = subst (λ (n : List ℕ). AskedUnlessRefused last end n why) name third.asked in
    keeps (Some (OfflineMap a b ov file)) before after _ refl
    (comes_of_no_map a b ov file before (g.F.Files.seen c.mesh_of.new.files) last after source target why _
    (record { holds = first.mesh; reads = first.reads; asked = first.asked })
    (record { holds = second.mesh; reads = second.reads; asked = second.asked })
    found third.reads asked refl c.refuse_no_map.ensures.status c.refuse_no_map.ensures.line)

pub returns-in-Ok-made-clause-kept : goal.returns-in-Ok-made-clause-kept
returns-in-Ok-made-clause-kept g c =
    let before = scene (g.F.Files.seen c.args.files.now) (g.O.Sink.seen c.args.out.now) (g.E.Sink.seen c.args.err.now) in
    let last = g.F.Files.seen c.mesh_of-2.new.files in
    let end = g.F.Files.seen c.map_of_file-made.new.files in
    let after = scene (g.F.Files.seen c.write_map.new.files) (g.O.Sink.seen c.write_map.new.out) (g.E.Sink.seen c.write_map.new.err) in
    let a = c.args.a.now in
    let b = c.args.b.now in
    let ov = c.args.ov_mesh.now in
    let file = c.args.file.now in
    let source = c.in-Ok.mesh in
    let target = c.in-Ok-mesh_of.mesh in
    let made = c.in-Ok-made.map in
    let name : c.as_str.result.now ≡ ov = search rules in
    let first = c.in-Ok.ensures in
    let second = c.in-Ok-mesh_of.ensures in
    let third = c.in-Ok-made.ensures in
    let found : IsMapOfFile last.folder ov source target made = subst (λ (n : List ℕ). IsMapOfFile last.folder n source target made) name third.map in
    let asked : Asked last end ov = subst (Asked last end) name third.asked in
    keeps (Some (OfflineMap a b ov file)) before after _ refl
    (comes_of_all overlap_words (OverlapFile ov) ov (overlap_input ov) (λ (source target : RawMesh) (overlap : OverlapParts). IsOutcomeOfMap source target overlap ov file) (IsMapText ov) (Some file) a b before (g.F.Files.seen c.mesh_of.new.files) last end after source target found.overlap _
    (record { holds = first.mesh; reads = first.reads; asked = first.asked })
    (record { holds = second.mesh; reads = second.reads; asked = second.asked })
    (record { holds = found.of_file; reads = third.reads; asked = asked })
    (c.write_map.ensures.comes source target found.overlap ov found.mappable found.is))
