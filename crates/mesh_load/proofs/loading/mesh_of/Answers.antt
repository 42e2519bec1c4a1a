use Rattle.std.proofs.Common.{◌≡◌, arith}
use Rattle.nc_format.proofs.SoundParts.{header_is_sound}
use Rattle.remap_load.specs.Kinds.{IsFileRefusal}
use Rattle.remap_load.proofs.Contents.{each_refusal, handed_on}
use Rattle.mesh_load.specs.MeshFile.{mesh_kind, IsOfHead}
use Rattle.mesh_load.specs.Refusals.{HasRawFault, IsOwn}
use Rattle.mesh_load.proofs.RawCounts.{some_faces}
use Rattle.mesh_load.proofs.OneMesh.{header_refusal, raw_refusal, raw_mesh, mesh_not_head}
use Rattle.mesh_load.proofs.loading.mesh_of.Goals as goal

pub counted_vars-requires : goal.counted_vars-requires
counted_vars-requires g c = let head = c.args.head.now in header_is_sound head.prefix head.len head.file c.requires.head.header

pub returns-in_err-vars-clause-refusal : goal.returns-in_err-vars-clause-refusal
returns-in_err-vars-clause-refusal g c =
    let seen = g.F.Files.seen c.args.files.now in
    let found = c.in_err-vars.field-0.0 in
    handed_on (IsFileRefusal mesh_kind seen seen c.args.name.now) c.from_residual.result found c.from_residual.ensures.1
    (header_refusal seen seen c.args.name.now c.args.head.now found c.requires.head c.requires.of_file c.in_err-vars.ensures.refusal)

pub checked-requires-clause-some_face : goal.checked-requires-clause-some_face
checked-requires-clause-some_face g c =
    omega (arith, c.in_ok-raw.ensures.faces, some_faces c.args.head.now.file c.in_ok-vars.vars c.in_ok-vars.ensures.found)

pub returns-clause-mesh : goal.returns-clause-mesh
returns-clause-mesh g c =
    let name = c.args.name.now in
    let folder = (g.F.Files.seen c.args.files.now).folder in
    raw_mesh folder name c.args.head.now c.in_ok-vars.vars c.in_ok-raw.raw c.checked.result c.requires.head c.requires.of_file c.in_ok-vars.ensures.found c.in_ok-vars.ensures.counts c.in_ok-raw.ensures.mesh c.checked.ensures.same c.checked.ensures.accepted

pub returns-clause-refusal : goal.returns-clause-refusal
returns-clause-refusal g c =
    let name = c.args.name.now in
    let old = g.F.Files.seen c.args.files.now in
    let new = g.F.Files.seen c.load_raw.new.files in
    each_refusal (IsOwn (HasRawFault c.in_ok-raw.raw)) (IsFileRefusal mesh_kind old new name) c.checked.result
    (λ r h. raw_refusal old new name c.args.head.now c.in_ok-vars.vars c.in_ok-raw.raw r c.requires.head c.requires.of_file c.in_ok-vars.ensures.found c.in_ok-vars.ensures.counts c.in_ok-raw.ensures.mesh h)
    c.checked.ensures.refusal

pub returns-clause-values_last : goal.returns-clause-values_last
returns-clause-values_last g c =
    let old = g.F.Files.seen c.args.files.now in
    let new = g.F.Files.seen c.load_raw.new.files in
    each_refusal (IsOwn (HasRawFault c.in_ok-raw.raw)) (λ refusal. IsOfHead refusal → new.taken ≡ old.taken) c.checked.result
    (λ r h k. absurd (mesh_not_head c.in_ok-raw.raw r h k)) c.checked.ensures.refusal
