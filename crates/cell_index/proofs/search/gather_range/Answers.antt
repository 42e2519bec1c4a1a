use Rattle.std.proofs.Common.{arith}
use Rattle.cell_index.specs.Kept.{InRange}
use Rattle.cell_index.proofs.Searches.{InRows, rows_start, rows_more, all_rows, gathers_where}
use Rattle.cell_index.proofs.search.gather_range.Goals as goal

pub loop-x-init : goal.loop-x-init
loop-x-init c = rows_start c.args.found.now.items c.args.cells.now c.args.s c.args.panel c.args.r

pub loop-x-preserved : goal.loop-x-preserved
loop-x-preserved c =
    rows_more c.args.found.now.items c.loop-x.found.items c.gather_row.new.found.items c.args.cells.now c.args.s c.args.panel c.args.r c.loop-x.x c.cell_number-first.result c.cell_number-last.result (omega arith) (omega arith)
    c.loop-x.invariant c.cell_number-first.ensures.value c.cell_number-last.ensures.value c.in_ok-gather_row.ensures

pub returns : goal.returns
returns c =
    let cells = c.args.cells.now in
    gathers_where c.args.found.now.items c.loop-x.found.items (InRows cells c.args.s c.args.panel c.args.r c.loop-x.x) (InRange cells c.args.s c.args.panel c.args.r) c.loop-x.invariant (λ j q. q.range)
    (all_rows cells c.args.s c.args.panel c.args.r c.loop-x.x (omega arith))
