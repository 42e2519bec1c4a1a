use Rattle.std.proofs.Common.{◌≡◌, ◌<◌, ◌+◌, ◌*◌, ◌++◌, ◌∷◌, [], ◌∙◌, ap, sym, map, drop, length, arith}
use Rattle.std.specs.List.{range_with_len}
use Rattle.std.proofs.lemmas.List.FromFn.{map-range_with_len_more}
use Rattle.remap_files.specs.Rows.{IsGoodRing, with_corners, piece_with}
use Rattle.remap_files.specs.OverlapRows.{ring_begin, ring_len, piece_at}
use Rattle.remap_files.proofs.RowFaults.{all_are_good, next_begin, first_begin, piece_is}
use Rattle.remap_files.proofs.GoodRows.{row_ring}
use Rattle.remap_files.proofs.rows.make_pieces.Goals as goal

pub loop-number-init : goal.loop-number-init
loop-number-init c = record {
  pieces = c.in_ok-pieces.ensures.items;
  begin = sym (first_begin c.args.rows.now.ring_size);
  inside = omega arith;
  small = omega arith;
}

pub piece_of_row-requires-clause-ring : goal.piece_of_row-requires-clause-ring
piece_of_row-requires-clause-ring c =
    let v = c.args.vars.now in
    let columns = c.args.rows.now in
    let r = c.loop-number.number in
    row_ring v columns r (all_are_good v columns c.requires.good r c.loop-number-test.true)

pub piece_of_row-requires-clause-corners : goal.piece_of_row-requires-clause-corners
piece_of_row-requires-clause-corners c =
    let v = c.args.vars.now in
    let columns = c.args.rows.now in
    let r = c.loop-number.number in
    let g : IsGoodRing columns.ring_size columns.ring_plane r = row_ring v columns r (all_are_good v columns c.requires.good r c.loop-number-test.true) in
    omega (arith, g.inside, c.loop-number.invariant.begin, c.requires.lens.ring_plane, c.requires.corners, c.split_at.ensures.back_len)

pub overflow_add-begin : goal.overflow_add-begin
overflow_add-begin c =
    let v = c.args.vars.now in
    let columns = c.args.rows.now in
    let r = c.loop-number.number in
    let g : IsGoodRing columns.ring_size columns.ring_plane r = row_ring v columns r (all_are_good v columns c.requires.good r c.loop-number-test.true) in
    omega (arith, c.ring_len.ensures, g.greatest_size, c.loop-number.invariant.small, c.loop-number-test.true, c.requires.count)

pub loop-number-preserved : goal.loop-number-preserved
loop-number-preserved c =
    let v = c.args.vars.now in
    let columns = c.args.rows.now in
    let corners = c.args.corners.now in
    let r = c.loop-number.number in
    let g : IsGoodRing columns.ring_size columns.ring_plane r = row_ring v columns r (all_are_good v columns c.requires.good r c.loop-number-test.true) in
    let there : r < length columns.ring_size = omega (arith, c.requires.lens.ring_size, c.loop-number-test.true) in
    let next : ring_begin columns.ring_size (r + 1) ≡ ring_begin columns.ring_size r + ring_len columns.ring_size r = next_begin columns.ring_size r there in
    let f = piece_at (with_corners columns corners) in
    let behind : c.split_at.result.1.now ≡ drop (3 * ring_begin columns.ring_size r) corners = c.split_at.ensures.back ∙ ap (λ n. drop (3 * n) corners) c.loop-number.invariant.begin in
    let piece : c.in_ok-piece_of_row.field-0 ≡ f r = c.in_ok-piece_of_row.ensures ∙ ap (piece_with columns r) behind ∙ sym (piece_is columns corners r) in
    let more : map f (range_with_len 0 (r + 1)) ≡ map f (range_with_len 0 r) ++ f r ∷ [] = map-range_with_len_more f 0 r r (omega arith) in
    record {
      pieces = c.in_ok-push.ensures.items ∙ ap (λ p. c.loop-number.pieces.items ++ p ∷ []) piece ∙ ap (λ l. l ++ f r ∷ []) c.loop-number.invariant.pieces ∙ sym more;
      begin = omega (arith, next, c.loop-number.invariant.begin, c.ring_len.ensures);
      inside = omega (arith, g.inside, c.loop-number.invariant.begin, c.ring_len.ensures);
      small = omega (arith, g.greatest_size, c.loop-number.invariant.small, c.ring_len.ensures);
    }
