use Rattle.std.proofs.Common.{◌≡◌, ◌∙◌}
use Rattle.remap_io.specs.Folder.{OnFile}
use Rattle.nc_format.proofs.SoundParts.{header_is_sound}
use Rattle.remap_load.specs.Kinds.{IsFileRefusal}
use Rattle.remap_load.proofs.Fronts.{on_this_file}
use Rattle.remap_load.proofs.Contents.{each_refusal, handed_on}
use Rattle.overlap_load.specs.OverlapFile.{overlap_kind, IsOfHead}
use Rattle.overlap_load.specs.Refusals.{HasRowFault, IsOwn}
use Rattle.overlap_load.proofs.OneOverlap.{AreOf, header_refusal, row_refusal, row_overlap, row_not_head}
use Rattle.overlap_load.proofs.loading.overlap_by_head.Goals as goal

pub named_vars-requires : goal.named_vars-requires
named_vars-requires g c = let head = c.args.head.now in header_is_sound head.prefix head.len head.file c.requires.head.header

pub returns-in_err-vars-clause-refusal : goal.returns-in_err-vars-clause-refusal
returns-in_err-vars-clause-refusal g c =
    let seen = g.F.Files.seen c.args.files.now in
    let found = c.in_err-vars.field-0.0 in
    handed_on (IsFileRefusal overlap_kind seen seen c.args.name.now) c.from_residual.result found c.from_residual.ensures.1
    (header_refusal seen seen c.args.name.now c.args.head.now found c.requires.head c.requires.of_file c.in_err-vars.ensures.refusal)

pub returns-clause-overlap : goal.returns-clause-overlap
returns-clause-overlap g c =
    let name = c.args.name.now in
    let folder = (g.F.Files.seen c.args.files.now).folder in
    let file = c.args.head.now.file in
    let vars = c.in_ok-vars.vars in
    let values = c.deref.result.now in
    let same : OnFile folder name (AreOf file vars values) = on_this_file folder name (AreOf file vars c.in_ok-values.values.items) (AreOf file vars values) (λ bytes k. c.deref.ensures.value ∙ k) c.in_ok-values.ensures.values in
    row_overlap folder name c.args.head.now vars values c.from_rows.result c.requires.head c.requires.of_file c.in_ok-vars.ensures.found same c.from_rows.ensures.overlap

pub returns-clause-refusal : goal.returns-clause-refusal
returns-clause-refusal g c =
    let name = c.args.name.now in
    let old = g.F.Files.seen c.args.files.now in
    let new = g.F.Files.seen c.load_values.new.files in
    let file = c.args.head.now.file in
    let vars = c.in_ok-vars.vars in
    let values = c.deref.result.now in
    let same : OnFile old.folder name (AreOf file vars values) = on_this_file old.folder name (AreOf file vars c.in_ok-values.values.items) (AreOf file vars values) (λ bytes k. c.deref.ensures.value ∙ k) c.in_ok-values.ensures.values in
    each_refusal (IsOwn (HasRowFault vars values)) (IsFileRefusal overlap_kind old new name) c.from_rows.result
    (λ why h. row_refusal old new name c.args.head.now vars values why c.requires.head c.requires.of_file c.in_ok-vars.ensures.found same h)
    c.from_rows.ensures.refusal

pub returns-clause-values_last : goal.returns-clause-values_last
returns-clause-values_last g c =
    let old = g.F.Files.seen c.args.files.now in
    let new = g.F.Files.seen c.load_values.new.files in
    let vars = c.in_ok-vars.vars in
    let values = c.deref.result.now in
    each_refusal (IsOwn (HasRowFault vars values)) (λ refusal. IsOfHead refusal → new.taken ≡ old.taken) c.from_rows.result
    (λ why h k. absurd (row_not_head vars values why h k)) c.from_rows.ensures.refusal
