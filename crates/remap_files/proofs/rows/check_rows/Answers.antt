use Rattle.std.proofs.Common.{◌≡◌, ◌<◌, ◌+◌, ◌∙◌, ap, sym, length, false, true, arith}
use Rattle.remap_files.specs.Rows.{IsGoodRing}
use Rattle.remap_files.specs.OverlapRows.{ring_begin, ring_len, is_good_row}
use Rattle.remap_files.proofs.RowFaults.{AreGood, any_corners, one_more_good, row_is_bad, rest_is_bad, no_fault, next_begin, first_begin}
use Rattle.remap_files.proofs.GoodRows.{row_ring}
use Rattle.remap_files.proofs.rows.check_rows.Goals as goal

pub loop-number-init : goal.loop-number-init
loop-number-init c = record {
  good = λ k below. absurd (omega (arith, below));
  begin = sym (first_begin c.args.rows.now.ring_size);
  inside = omega arith;
  small = omega arith;
}

pub returns-then-not-is_good_row : goal.returns-then-not-is_good_row
returns-then-not-is_good_row c = λ corner.
    let v = c.args.vars.now in
    let columns = c.args.rows.now in
    let r = c.loop-number.number in
    let bad : is_good_row v.faces_a v.faces_b columns r ≡ false = sym c.is_good_row.ensures ∙ c.if-not-is_good_row.true in
    sym (any_corners v columns corner ∙ row_is_bad v columns r c.loop-number-test.true c.loop-number.invariant.good bad)

pub overflow_add-begin : goal.overflow_add-begin
overflow_add-begin c =
    let g : IsGoodRing c.args.rows.now.ring_size c.args.rows.now.ring_plane c.loop-number.number =
    row_ring c.args.vars.now c.args.rows.now c.loop-number.number (sym c.is_good_row.ensures ∙ c.if-not-is_good_row.false) in
    omega (arith, c.ring_len-begin.ensures, g.greatest_size, c.loop-number.invariant.small, c.loop-number-test.true, c.requires.count)

pub loop-number-preserved : goal.loop-number-preserved
loop-number-preserved c =
    let v = c.args.vars.now in
    let columns = c.args.rows.now in
    let r = c.loop-number.number in
    let good : is_good_row v.faces_a v.faces_b columns r ≡ true = sym c.is_good_row.ensures ∙ c.if-not-is_good_row.false in
    let g : IsGoodRing columns.ring_size columns.ring_plane r = row_ring v columns r good in
    let there : r < length columns.ring_size = omega (arith, c.requires.lens.ring_size, c.loop-number-test.true) in
    let next : ring_begin columns.ring_size (r + 1) ≡ ring_begin columns.ring_size r + ring_len columns.ring_size r = next_begin columns.ring_size r there in
    record {
      good = one_more_good v columns r c.loop-number.invariant.good good;
      begin = omega (arith, next, c.loop-number.invariant.begin, c.ring_len-begin.ensures);
      inside = omega (arith, g.inside, c.loop-number.invariant.begin, c.ring_len-begin.ensures);
      small = omega (arith, g.greatest_size, c.loop-number.invariant.small, c.ring_len-begin.ensures);
    }

pub returns-then-begin-planes : goal.returns-then-begin-planes
returns-then-begin-planes c = λ corner.
    let v = c.args.vars.now in
    let columns = c.args.rows.now in
    let at : c.loop-number.number ≡ v.pieces = omega (arith, c.loop-number-test.false, c.loop-number.auto.number-end) in
    let all : AreGood v columns v.pieces = λ k below. c.loop-number.invariant.good k (omega (arith, at, below)) in
    let begin : ring_begin columns.ring_size v.pieces ≡ c.loop-number.begin = ap (ring_begin columns.ring_size) (sym at) ∙ sym c.loop-number.invariant.begin in
    sym (any_corners v columns corner ∙ rest_is_bad v columns all (omega (arith, begin, c.plane_count-planes.ensures, c.if-begin-planes.true)))

pub returns : goal.returns
returns c = λ corner.
    let v = c.args.vars.now in
    let columns = c.args.rows.now in
    let at : c.loop-number.number ≡ v.pieces = omega (arith, c.loop-number-test.false, c.loop-number.auto.number-end) in
    let all : AreGood v columns v.pieces = λ k below. c.loop-number.invariant.good k (omega (arith, at, below)) in
    let begin : ring_begin columns.ring_size v.pieces ≡ c.loop-number.begin = ap (ring_begin columns.ring_size) (sym at) ∙ sym c.loop-number.invariant.begin in
    sym (any_corners v columns corner ∙ no_fault v columns all (omega (arith, begin, c.plane_count-planes.ensures, c.if-begin-planes.false)))
