use Rattle.std.proofs.Common.{◌≡◌}
use Rattle.nc_format.proofs.SoundParts.{header_is_sound}
use Rattle.remap_load.specs.Kinds.{IsFileRefusal}
use Rattle.remap_load.proofs.Contents.{each_refusal, handed_on}
use Rattle.map_load.specs.MapFile.{map_kind, IsOfHead}
use Rattle.map_load.specs.Refusals.{HasRowFault, IsOwn}
use Rattle.map_load.proofs.OneMap.{header_refusal, row_refusal, row_map, row_not_head}
use Rattle.map_load.proofs.loading.map_by_head.Goals as goal

pub named_vars-requires : goal.named_vars-requires
named_vars-requires g c = let head = c.args.head.now in header_is_sound head.prefix head.len head.file c.requires.head.header

pub returns-in_err-vars-clause-refusal : goal.returns-in_err-vars-clause-refusal
returns-in_err-vars-clause-refusal g c =
    let seen = g.F.Files.seen c.args.files.now in
    let found = c.in_err-vars.field-0.0 in
    handed_on (IsFileRefusal map_kind seen seen c.args.name.now) c.from_residual.result found c.from_residual.ensures.1
    (header_refusal seen seen c.args.name.now c.args.head.now found c.requires.head c.requires.of_file c.in_err-vars.ensures.refusal)

pub returns-clause-map : goal.returns-clause-map
returns-clause-map g c =
    let name = c.args.name.now in
    let folder = (g.F.Files.seen c.args.files.now).folder in
    let file = c.args.head.now.file in
    let vars = c.in_ok-vars.vars in
    let values = c.in_ok-numbers.numbers in
    let same = c.in_ok-numbers.ensures.values in
    row_map folder name c.args.head.now vars values c.from_rows.result c.requires.head c.requires.of_file c.in_ok-vars.ensures.found same c.from_rows.ensures.map

pub returns-clause-refusal : goal.returns-clause-refusal
returns-clause-refusal g c =
    let name = c.args.name.now in
    let old = g.F.Files.seen c.args.files.now in
    let new = g.F.Files.seen c.load_values.new.files in
    let file = c.args.head.now.file in
    let vars = c.in_ok-vars.vars in
    let values = c.in_ok-numbers.numbers in
    let same = c.in_ok-numbers.ensures.values in
    each_refusal (IsOwn (HasRowFault vars values)) (IsFileRefusal map_kind old new name) c.from_rows.result
    (λ why h. row_refusal old new name c.args.head.now vars values why c.requires.head c.requires.of_file c.in_ok-vars.ensures.found same h)
    c.from_rows.ensures.refusal

pub returns-clause-values_last : goal.returns-clause-values_last
returns-clause-values_last g c =
    let old = g.F.Files.seen c.args.files.now in
    let new = g.F.Files.seen c.load_values.new.files in
    let vars = c.in_ok-vars.vars in
    let values = c.in_ok-numbers.numbers in
    each_refusal (IsOwn (HasRowFault vars values)) (λ refusal. IsOfHead refusal → new.taken ≡ old.taken) c.from_rows.result
    (λ why h k. absurd (row_not_head vars values why h k)) c.from_rows.ensures.refusal
