use mir.Syntax.{w32}
use Rattle.std.proofs.Common.{pos}
use Rattle.map_rows.specs.declared.rows.MapRow.{MapRow}
use Rattle.map_files.proofs.Numbers.{number_step}
use Rattle.map_files.proofs.document.row_numbers.Goals as goal

pub loop-row-preserved : goal.loop-row-preserved
loop-row-preserved c =
    let rows = c.args.rows.now in
    let i = c.loop-row.row-index in
    let none : MapRow = record { col = 0; row = 0; s = pos 0 } in
    number_step w32 (λ (r : MapRow). r.row) rows i none c.loop-row.values.items c.push.new.self.items c.loop-row-test.true (c.requires i none c.loop-row-test.true) c.loop-row.invariant c.in_ok-push.ensures.items
