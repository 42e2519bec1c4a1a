use Rattle.nc_format.proofs.SoundParts.{header_is_sound}
use Rattle.remap_load.specs.Kinds.{IsFileRefusal}
use Rattle.remap_load.proofs.Contents.{handed_on}
use Rattle.data_load.specs.DataFile.{data_kind}
use Rattle.data_load.proofs.OneData.{header_refusal, data_of_head, file_header}
use Rattle.data_load.proofs.loading.data_by_head.Goals as goal

pub named_place-requires : goal.named_place-requires
named_place-requires g c = let head = c.args.head in header_is_sound head.prefix head.len head.file c.requires.head.header

pub returns-in_err-place-clause-refusal : goal.returns-in_err-place-clause-refusal
returns-in_err-place-clause-refusal g c =
    let seen = g.F.Files.seen c.args.files.now in
    let found = c.in_err-place.field-0.0 in
    handed_on (IsFileRefusal (data_kind c.args.var.now) seen seen c.args.name.now) c.from_residual.result found c.from_residual.ensures.1
    (header_refusal seen seen c.args.name.now c.args.var.now c.args.head found c.requires.head c.requires.of_file c.in_err-place.ensures.refusal)

pub fill_value-fill-requires : goal.fill_value-fill-requires
fill_value-fill-requires g c = let head = c.args.head in record { sound = header_is_sound head.prefix head.len head.file c.requires.head.header }

pub returns-clause-variable : goal.returns-clause-variable
returns-clause-variable g c =
    data_of_head (g.F.Files.seen c.args.files.now).folder c.args.name.now c.args.var.now c.args.head c.in_ok-place.place c.in_ok-values.values c.fill_value-fill.result c.requires.head c.requires.of_file c.in_ok-place.ensures.found c.fill_value-fill.ensures.fill c.in_ok-values.ensures.values

pub returns-clause-sound : goal.returns-clause-sound
returns-clause-sound g c = record { header = file_header c.args.head c.requires.head; place = c.in_ok-place.ensures.place; count = c.in_ok-values.ensures.len }
