use mir.Syntax.{w64}
use mir.Val.{SFits}
use Rattle.std.proofs.Common.{pos, slice_index_or, rules}
use Rattle.map_rows.specs.declared.rows.MapRow.{MapRow}
use Rattle.map_rows.specs.Maps.{measure_of}
use Rattle.map_files.proofs.Numbers.{signed_step}
use Rattle.map_files.proofs.document.measures.Goals as goal

pub loop-row-preserved : goal.loop-row-preserved
loop-row-preserved c =
    let rows = c.args.rows.now in
    let i = c.loop-row.row-index in
    let none : MapRow = record { col = 0; row = 0; s = pos 0 } in
    let fits : SFits w64 (slice_index_or rows i none).s = search rules in
    signed_step w64 measure_of rows i none c.loop-row.values.items c.push.new.self.items c.loop-row-test.true fits c.loop-row.invariant c.in_ok-push.ensures.items
