use Rattle.std.proofs.Common.{Some, refl}
use Rattle.map_rows.specs.Maps.{MapParts}
use Rattle.data_load.specs.declared.DataVar.{DataVar}
use Rattle.command_line.specs.declared.choices.Chosen.TheVariants.{Apply}
use Rattle.tempest_top.specs.Scene.{scene}
use Rattle.tempest_top.specs.Outcome.{IsOutcomeOfField}
use Rattle.tempest_top.specs.Promises.{IsFieldText}
use Rattle.tempest_top.proofs.MapAndData.{comes_of_map, comes_of_data, comes_of_map_and_data}
use Rattle.tempest_top.proofs.Keeping.{keeps}
use Rattle.tempest_top.proofs.field.apply_offline_map.Goals as goal

pub returns-in-Err-clause-kept : goal.returns-in-Err-clause-kept
returns-in-Err-clause-kept g c =
    let before = scene (g.F.Files.seen c.args.files.now) (g.O.Sink.seen c.args.out.now) (g.E.Sink.seen c.args.err.now) in
    let after = scene (g.F.Files.seen c.map_of.new.files) (g.O.Sink.seen c.args.out.now) (g.E.Sink.seen c.refuse_map_of.new.err) in
    let map = c.args.map.now in
    let var = c.args.var.now in
    let in_data = c.args.in_data.now in
    let file = c.args.file.now in
    let load = c.in-Err.ensures in
    keeps (Some (Apply map var in_data file c.args.masked)) before after _ refl
    (comes_of_map (λ (parts : MapParts) (found : DataVar). IsOutcomeOfField c.args.masked parts found in_data file) (IsFieldText in_data file) (Some file) map var in_data before after c.in-Err.why _
    (record { refused = load.refusal; reads = load.reads; out = refl; answer = c.refuse_map_of.ensures.status; line = c.refuse_map_of.ensures.line }))

pub returns-in-Err-data_of-clause-kept : goal.returns-in-Err-data_of-clause-kept
returns-in-Err-data_of-clause-kept g c =
    let before = scene (g.F.Files.seen c.args.files.now) (g.O.Sink.seen c.args.out.now) (g.E.Sink.seen c.args.err.now) in
    let after = scene (g.F.Files.seen c.data_of.new.files) (g.O.Sink.seen c.args.out.now) (g.E.Sink.seen c.refuse_data_of.new.err) in
    let map = c.args.map.now in
    let var = c.args.var.now in
    let in_data = c.args.in_data.now in
    let file = c.args.file.now in
    let first = c.in-Ok.ensures in
    let load = c.in-Err-data_of.ensures in
    let refuse = c.refuse_data_of.ensures in
    keeps (Some (Apply map var in_data file c.args.masked)) before after _ refl
    (comes_of_data (λ (parts : MapParts) (found : DataVar). IsOutcomeOfField c.args.masked parts found in_data file) (IsFieldText in_data file) (Some file) map var in_data before (g.F.Files.seen c.map_of.new.files) after c.in-Ok.parts c.in-Err-data_of.why _
    (record { holds = first.map; reads = first.reads; asked = first.asked })
    (record { refused = load.refusal; reads = load.reads; out = refl; answer = refuse.status; line = refuse.line }))

pub returns-clause-kept : goal.returns-clause-kept
returns-clause-kept g c =
    let before = scene (g.F.Files.seen c.args.files.now) (g.O.Sink.seen c.args.out.now) (g.E.Sink.seen c.args.err.now) in
    let after = scene (g.F.Files.seen c.write_field-status.new.files) (g.O.Sink.seen c.write_field-status.new.out) (g.E.Sink.seen c.write_field-status.new.err) in
    let map = c.args.map.now in
    let var = c.args.var.now in
    let in_data = c.args.in_data.now in
    let file = c.args.file.now in
    let first = c.in-Ok.ensures in
    let second = c.in-Ok-data_of.ensures in
    keeps (Some (Apply map var in_data file c.args.masked)) before after _ refl
    (comes_of_map_and_data (λ (parts : MapParts) (found : DataVar). IsOutcomeOfField c.args.masked parts found in_data file) (IsFieldText in_data file) (Some file) map var in_data before (g.F.Files.seen c.map_of.new.files) (g.F.Files.seen c.data_of.new.files) after c.in-Ok.parts c.in-Ok-data_of.found _
    (record { holds = first.map; reads = first.reads; asked = first.asked })
    (record { holds = second.variable; reads = second.reads; asked = second.asked })
    c.write_field-status.ensures.comes)
