use Rattle.std.proofs.Common.{[], List, ℤ, sym, subst, arith}
use Rattle.overlap_load.specs.Windows.{IsReader, IsRead}
use Rattle.overlap_load.proofs.OneOverlap.{needed_is}
use Rattle.overlap_load.proofs.Windowed.{begun, begun_reader, begun_read, begun_cost}
use Rattle.overlap_load.proofs.windows.open_by_head.Goals as goal

pub returns-in-Ok-clause-read : goal.returns-in-Ok-clause-read
returns-in-Ok-clause-read g c =
    let head = c.args.head in
    let vars = c.in-Ok.vars in
    let values = c.in-Ok.values.items in
    let rows = c.in-Ok.ensures in
    let folder = (g.F.Files.seen c.args.files.now).folder in
    let reader : IsReader (begun head vars values) = begun_reader head vars values c.requires.head rows.found rows.lens rows.good in
    subst (λ (l : List ℤ). IsRead folder c.args.name.now (record (begun head vars values) { corners = l }) []) (sym c.new.ensures.items) (begun_read folder c.args.name.now head vars values reader c.requires.of_file rows.values)

pub returns-in-Ok-clause-asked : goal.returns-in-Ok-clause-asked
returns-in-Ok-clause-asked g c =
    let head = c.args.head in
    let vars = c.in-Ok.vars in
    let values = c.in-Ok.values.items in
    let rows = c.in-Ok.ensures in
    let reader : IsReader (begun head vars values) = begun_reader head vars values c.requires.head rows.found rows.lens rows.good in
    omega (arith, begun_cost head vars values reader, rows.asked, needed_is head.file vars rows.found)
