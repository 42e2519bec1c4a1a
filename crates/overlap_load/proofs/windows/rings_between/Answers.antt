use Rattle.std.proofs.Common.{◌≡◌, ◌+◌, ◌<◌, length, ap, arith}
use Rattle.remap_files.specs.OverlapRows.{ring_begin}
use Rattle.remap_files.proofs.RowFaults.{next_begin}
use Rattle.overlap_load.proofs.Reader.{begin_grows}
use Rattle.overlap_load.proofs.windows.rings_between.Goals as goal

pub overflow_add-sum : goal.overflow_add-sum
overflow_add-sum c =
    let sizes = c.args.rows.now.ring_size in
    let row = c.loop-row.row in
    let below : row < length sizes = omega (arith, c.loop-row-test.true, c.requires.rows) in
    omega (arith, next_begin sizes row below, begin_grows sizes (row + 1) c.args.to (omega (arith, c.loop-row-test.true)), c.loop-row.invariant, c.ring_len-sum.ensures, c.requires.few)

pub loop-row-preserved : goal.loop-row-preserved
loop-row-preserved c =
    let sizes = c.args.rows.now.ring_size in
    let row = c.loop-row.row in
    let below : row < length sizes = omega (arith, c.loop-row-test.true, c.requires.rows) in
    omega (arith, next_begin sizes row below, c.loop-row.invariant, c.ring_len-sum.ensures)

pub returns : goal.returns
returns c =
    let sizes = c.args.rows.now.ring_size in
    let at : c.loop-row.row ≡ c.args.to = omega (arith, c.loop-row-test.false, c.loop-row.auto.row-end, c.requires.order) in
    omega (arith, c.loop-row.invariant, ap (ring_begin sizes) at)
