use Rattle.std.proofs.Common.{rules, ◌≡◌, ◌∙◌, [], List, ℤ, length, ap, ap₂, sym, subst, arith}
use Rattle.remap_files.specs.OverlapRows.{Columns, columns_of, ring_len}
use Rattle.remap_files.specs.Rows.{IsGoodRing, with_corners}
use Rattle.overlap_load.specs.Windows.{columns}
use Rattle.overlap_load.proofs.Windowed.{HasRow, has_row}
use Rattle.overlap_load.proofs.windows.OverlapReader.take_piece.Goals as goal

pub overflow_mul-self-inside-inside : goal.overflow_mul-self-inside-inside
overflow_mul-self-inside-inside c =
    let r = c.args.self.now in
    let row : HasRow r = has_row r c.requires.reader c.requires.ready in
    let begin : c.self-inside.inside.0.1.1.1.1.0 ≡ r.begin = search rules in
    omega (arith, row.bound, begin)

pub split_at-requires : goal.split_at-requires
split_at-requires c =
    let r = c.args.self.now in
    let row : HasRow r = has_row r c.requires.reader c.requires.ready in
    let begin : c.self-inside.inside.0.1.1.1.1.0 ≡ r.begin = search rules in
    let first : c.self-inside.inside.0.1.1.1.1.1.1.0 ≡ r.first = search rules in
    let corners : c.deref-2.result.now ≡ r.corners = search rules in
    omega (arith, row.inside, begin, first, ap length corners)

pub piece_of_row-requires-clause-ring : goal.piece_of_row-requires-clause-ring
piece_of_row-requires-clause-ring c =
    let r = c.args.self.now in
    let row : HasRow r = has_row r c.requires.reader c.requires.ready in
    let at : c.self-inside.inside.0.1.1.1.0 ≡ r.at = search rules in
    let values : c.deref.result.now ≡ r.values = search rules in
    let rows : c.rows_of-rows.result ≡ columns r [] = c.rows_of-rows.ensures ∙ ap (λ (l : List (List ℤ)). with_corners (columns_of l) []) values in
    subst (λ (k : _). IsGoodRing c.rows_of-rows.result.ring_size c.rows_of-rows.result.ring_plane k) (sym at) (subst (λ (x : Columns). IsGoodRing x.ring_size x.ring_plane r.at) (sym rows) row.ring)

pub piece_of_row-requires-clause-corners : goal.piece_of_row-requires-clause-corners
piece_of_row-requires-clause-corners c =
    let r = c.args.self.now in
    let row : HasRow r = has_row r c.requires.reader c.requires.ready in
    let at : c.self-inside.inside.0.1.1.1.0 ≡ r.at = search rules in
    let begin : c.self-inside.inside.0.1.1.1.1.0 ≡ r.begin = search rules in
    let first : c.self-inside.inside.0.1.1.1.1.1.1.0 ≡ r.first = search rules in
    let corners : c.deref-2.result.now ≡ r.corners = search rules in
    let values : c.deref.result.now ≡ r.values = search rules in
    let rows : c.rows_of-rows.result ≡ columns r [] = c.rows_of-rows.ensures ∙ ap (λ (l : List (List ℤ)). with_corners (columns_of l) []) values in
    let len : ring_len c.rows_of-rows.result.ring_size c.self-inside.inside.0.1.1.1.0 ≡ ring_len (columns r []).ring_size r.at = ap₂ (λ (x : Columns) (k : _). ring_len x.ring_size k) rows at in
    omega (arith, row.inside, begin, first, len, ap length corners, c.split_at.ensures.back_len)

pub overflow_add-self-2 : goal.overflow_add-self-2
overflow_add-self-2 c =
    let r = c.args.self.now in
    let row : HasRow r = has_row r c.requires.reader c.requires.ready in
    let at : c.self-inside.inside.0.1.1.1.0 ≡ r.at = search rules in
    let begin : c.self-inside.inside.0.1.1.1.1.0 ≡ r.begin = search rules in
    let values : c.deref.result.now ≡ r.values = search rules in
    let rows : c.rows_of-rows.result ≡ columns r [] = c.rows_of-rows.ensures ∙ ap (λ (l : List (List ℤ)). with_corners (columns_of l) []) values in
    let len : ring_len c.rows_of-rows.result.ring_size c.self-inside.inside.0.1.1.1.0 ≡ ring_len (columns r []).ring_size r.at = ap₂ (λ (x : Columns) (k : _). ring_len x.ring_size k) rows at in
    omega (arith, row.bound, begin, len, c.ring_len-len.ensures)
