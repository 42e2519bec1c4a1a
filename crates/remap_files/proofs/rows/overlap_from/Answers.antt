use Rattle.std.proofs.Common.{◌≡◌, ◌∙◌, [], None, inr, rules, ap, sym, subst, map, List, Ok}
use Rattle.std.specs.List.{range_with_len}
use Rattle.clip.specs.declared.pieces.Piece.{Piece}
use Rattle.clip.specs.Overlaps.{IsSoundOverlap}
use Rattle.remap_files.specs.OverlapRows.{Columns, columns_of, piece_at, row_fault}
use Rattle.remap_files.specs.Rows.{HasRowLens, with_corners}
use Rattle.remap_files.proofs.RowFaults.{no_rows, five_lists, row_lens, any_corners, fault_is, overlap_is}
use Rattle.remap_files.proofs.GoodRows.{sound_rows}
use Rattle.remap_files.proofs.rows.overlap_from.Goals as goal

pub check_rows-requires-clause-lens : goal.check_rows-requires-clause-lens
check_rows-requires-clause-lens c =
    let v = c.args.vars.now in
    subst (HasRowLens v) (sym c.rows_of-rows.ensures) (row_lens v (columns_of c.args.values.now) [] (five_lists v c.args.values.now c.if-vars-eq0.false c.requires.lists).lens)

pub make_pieces-requires-clause-good : goal.make_pieces-requires-clause-good
make_pieces-requires-clause-good c =
    let v = c.args.vars.now in
    let none : c.check_rows.result ≡ None = search rules in
    sym (any_corners v c.rows_of-rows.result []) ∙ sym (c.check_rows.ensures []) ∙ none

pub returns-then-vars-eq0-clause-overlap : goal.returns-then-vars-eq0-clause-overlap
returns-then-vars-eq0-clause-overlap c =
    no_rows c.args.vars.now c.args.values.now c.if-vars-eq0.true c.requires.lists
    ∙ ap (λ (l : List Piece). Ok (record { faces_a = c.args.vars.now.faces_a; faces_b = c.args.vars.now.faces_b; pieces = l })) (sym c.new.ensures.items)

pub returns-in-Some-clause-fault : goal.returns-in-Some-clause-fault
returns-in-Some-clause-fault c =
    let v = c.args.vars.now in
    let columns = columns_of c.args.values.now in
    let same : with_corners c.rows_of-rows.result columns.corner ≡ columns = ap (λ (k : Columns). with_corners k columns.corner) c.rows_of-rows.ensures in
    inr (fault_is v columns c.in-Some.row (sym (ap (row_fault v) same) ∙ sym (c.check_rows.ensures columns.corner) ∙ c.in-Some.is))

pub invariant_of-result-2 : goal.invariant_of-result-2
invariant_of-result-2 c =
    let v = c.args.vars.now in
    let columns = columns_of c.args.values.now in
    let none : c.check_rows.result ≡ None = search rules in
    let same : with_corners c.rows_of-rows.result columns.corner ≡ columns = ap (λ (k : Columns). with_corners k columns.corner) c.rows_of-rows.ensures in
    let all : with_corners c.rows_of-rows.result c.numbers.result.now ≡ columns = ap (with_corners c.rows_of-rows.result) c.numbers.ensures ∙ same in
    let good : row_fault v columns ≡ None = sym (ap (row_fault v) same) ∙ sym (c.check_rows.ensures columns.corner) ∙ none in
    let made : c.in_ok-pieces.pieces.items ≡ map (piece_at columns) (range_with_len 0 v.pieces) =
    subst (λ (k : Columns). c.in_ok-pieces.pieces.items ≡ map (piece_at k) (range_with_len 0 v.pieces)) all c.in_ok-pieces.ensures in
    subst (λ (l : List Piece). IsSoundOverlap (record { faces_a = v.faces_a; faces_b = v.faces_b; pieces = l })) (sym made)
    (sound_rows v columns c.requires.source_faces c.requires.target_faces c.requires.pieces good)

pub returns-clause-overlap : goal.returns-clause-overlap
returns-clause-overlap c =
    let v = c.args.vars.now in
    let columns = columns_of c.args.values.now in
    let none : c.check_rows.result ≡ None = search rules in
    let same : with_corners c.rows_of-rows.result columns.corner ≡ columns = ap (λ (k : Columns). with_corners k columns.corner) c.rows_of-rows.ensures in
    let all : with_corners c.rows_of-rows.result c.numbers.result.now ≡ columns = ap (with_corners c.rows_of-rows.result) c.numbers.ensures ∙ same in
    let good : row_fault v columns ≡ None = sym (ap (row_fault v) same) ∙ sym (c.check_rows.ensures columns.corner) ∙ none in
    let made : c.in_ok-pieces.pieces.items ≡ map (piece_at columns) (range_with_len 0 v.pieces) =
    subst (λ (k : Columns). c.in_ok-pieces.pieces.items ≡ map (piece_at k) (range_with_len 0 v.pieces)) all c.in_ok-pieces.ensures in
    overlap_is v c.args.values.now good
    ∙ ap (λ (l : List Piece). Ok (record { faces_a = v.faces_a; faces_b = v.faces_b; pieces = l })) (sym made)
