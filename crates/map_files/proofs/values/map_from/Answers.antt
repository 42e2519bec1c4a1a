use Rattle.std.proofs.Common.{◌≡◌, ◌∙◌, ℤ, Ok, length, List, All, ap, ap₂, sym, subst, inr, arith}
use Rattle.map_rows.specs.declared.rows.MapRow.{MapRow}
use Rattle.map_rows.specs.Maps.{MapParts, IsSoundRow, IsSoundMap, source_of, target_of, measure_of, areas_of}
use Rattle.map_rows.proofs.FaceSums.{length-sums_of}
use Rattle.map_files.specs.MapValues.{RowColumns, is_good_map_row, map_rows_of, is_sum, is_sum_of_some, map_at}
use Rattle.exodus_mesh.proofs.FirstNot.{all_good}
use Rattle.map_files.proofs.MapFaults.{row_is, source_is, target_is, map_is, rows_len, sound_rows, areas_are, sums_good, sound_map, first_same}
use Rattle.map_files.proofs.values.map_from.Goals as goal

pub overflow_add-result : goal.overflow_add-result
overflow_add-result c = omega (arith, c.in-Some.ensures.below, c.requires.rows)

pub returns-in-Some-clause-fault : goal.returns-in-Some-clause-fault
returns-in-Some-clause-fault c =
    inr (row_is c.args.vars.now (record { col = c.args.col.now; row = c.args.row.now; s = c.args.s.now }) c.args.area_a.now c.args.area_b.now c.in-Some.r (sym c.in-Some.ensures.first))

pub areas_of_rows-requires-clause-count : goal.areas_of_rows-requires-clause-count
areas_of_rows-requires-clause-count c =
    let columns : RowColumns = record { col = c.args.col.now; row = c.args.row.now; s = c.args.s.now } in
    let is : c.deref.result.now ≡ map_rows_of c.args.vars.now.n_s columns = c.deref.ensures.value ∙ c.in_ok-rows.ensures in
    omega (arith, ap (length {A = MapRow}) is, rows_len columns c.args.vars.now.n_s, c.requires.rows)

pub areas_of_rows-requires-clause-rows : goal.areas_of_rows-requires-clause-rows
areas_of_rows-requires-clause-rows c =
    let v = c.args.vars.now in
    let columns : RowColumns = record { col = c.args.col.now; row = c.args.row.now; s = c.args.s.now } in
    let is : c.deref.result.now ≡ map_rows_of v.n_s columns = c.deref.ensures.value ∙ c.in_ok-rows.ensures in
    subst (λ (l : List MapRow). All (IsSoundRow v.n_a v.n_b) l) (sym is) (sound_rows v.n_a v.n_b v.n_s columns (all_good (is_good_map_row v.n_a v.n_b columns) v.n_s (sym c.in_default.ensures.first)))

pub first_other_source-requires-clause-same : goal.first_other_source-requires-clause-same
first_other_source-requires-clause-same c =
    let v = c.args.vars.now in
    ap (length {A = ℤ}) c.deref-2.ensures.value ∙ ap (length {A = ℤ}) c.in_ok-sums.ensures.source ∙ length-sums_of source_of measure_of v.n_a c.deref.result.now ∙ sym c.requires.area_a

pub overflow_add-result-in-Some-first_other_source :
    goal.overflow_add-result-in-Some-first_other_source
overflow_add-result-in-Some-first_other_source c = omega (arith, c.in-Some-first_other_source.ensures.below, c.requires.area_a, c.requires.source_faces.1)

pub returns-in-Some-first_other_source-clause-fault :
    goal.returns-in-Some-first_other_source-clause-fault
returns-in-Some-first_other_source-clause-fault c =
    let v = c.args.vars.now in
    let columns : RowColumns = record { col = c.args.col.now; row = c.args.row.now; s = c.args.s.now } in
    let is : c.deref.result.now ≡ map_rows_of v.n_s columns = c.deref.ensures.value ∙ c.in_ok-rows.ensures in
    let sums : c.deref-2.result.now ≡ areas_of source_of v.n_a (map_rows_of v.n_s columns) = c.deref-2.ensures.value ∙ c.in_ok-sums.ensures.source ∙ ap (areas_of source_of v.n_a) is in
    inr (source_is v columns c.args.area_a.now c.args.area_b.now c.in-Some-first_other_source.i (sym c.in_default.ensures.first)
    (first_same is_sum c.args.area_a.now _ _ _ _ _ sums c.requires.area_a (sym c.in-Some-first_other_source.ensures.first)))

pub first_other_target-requires-clause-same : goal.first_other_target-requires-clause-same
first_other_target-requires-clause-same c =
    let v = c.args.vars.now in
    ap (length {A = ℤ}) c.deref-3.ensures.value ∙ ap (length {A = ℤ}) c.in_ok-sums.ensures.target ∙ length-sums_of target_of measure_of v.n_b c.deref.result.now ∙ sym c.requires.area_b

pub overflow_add-result-in-Some-first_other_target :
    goal.overflow_add-result-in-Some-first_other_target
overflow_add-result-in-Some-first_other_target c = omega (arith, c.in-Some-first_other_target.ensures.below, c.requires.area_b, c.requires.target_faces.1)

pub returns-in-Some-first_other_target-clause-fault :
    goal.returns-in-Some-first_other_target-clause-fault
returns-in-Some-first_other_target-clause-fault c =
    let v = c.args.vars.now in
    let columns : RowColumns = record { col = c.args.col.now; row = c.args.row.now; s = c.args.s.now } in
    let is : c.deref.result.now ≡ map_rows_of v.n_s columns = c.deref.ensures.value ∙ c.in_ok-rows.ensures in
    let sources : c.deref-2.result.now ≡ areas_of source_of v.n_a (map_rows_of v.n_s columns) = c.deref-2.ensures.value ∙ c.in_ok-sums.ensures.source ∙ ap (areas_of source_of v.n_a) is in
    let targets : c.deref-3.result.now ≡ areas_of target_of v.n_b (map_rows_of v.n_s columns) = c.deref-3.ensures.value ∙ c.in_ok-sums.ensures.target ∙ ap (areas_of target_of v.n_b) is in
    inr (target_is v columns c.args.area_a.now c.args.area_b.now c.in-Some-first_other_target.j (sym c.in_default.ensures.first)
    (first_same is_sum c.args.area_a.now _ _ _ _ _ sources c.requires.area_a (sym c.in_default-first_other_source.ensures.first))
    (first_same is_sum_of_some c.args.area_b.now _ _ _ _ _ targets c.requires.area_b (sym c.in-Some-first_other_target.ensures.first)))

pub invariant_of-result : goal.invariant_of-result
invariant_of-result c =
    let v = c.args.vars.now in
    let columns : RowColumns = record { col = c.args.col.now; row = c.args.row.now; s = c.args.s.now } in
    let rows : List MapRow = map_rows_of v.n_s columns in
    let is : c.deref.result.now ≡ rows = c.deref.ensures.value ∙ c.in_ok-rows.ensures in
    let sources : c.in_ok-sums.sums.source.items ≡ areas_of source_of v.n_a rows = c.in_ok-sums.ensures.source ∙ ap (areas_of source_of v.n_a) is in
    let targets : c.in_ok-sums.sums.target.items ≡ areas_of target_of v.n_b rows = c.in_ok-sums.ensures.target ∙ ap (areas_of target_of v.n_b) is in
    let good = all_good (is_good_map_row v.n_a v.n_b columns) v.n_s (sym c.in_default.ensures.first) in
    let covered = all_good (is_sum_of_some c.args.area_b.now (areas_of target_of v.n_b rows)) v.n_b
    (first_same is_sum_of_some c.args.area_b.now _ _ _ _ _ (c.deref-3.ensures.value ∙ targets) c.requires.area_b (sym c.in_default-first_other_target.ensures.first)) in
    subst (λ (l : List MapRow). IsSoundMap (record { n_a = v.n_a; n_b = v.n_b; rows = l; area_a = c.in_ok-sums.sums.source.items; area_b = c.in_ok-sums.sums.target.items })) (sym c.in_ok-rows.ensures)
    (subst (λ (l : List ℤ). IsSoundMap (record { n_a = v.n_a; n_b = v.n_b; rows = rows; area_a = l; area_b = c.in_ok-sums.sums.target.items })) (sym sources)
    (subst (λ (l : List ℤ). IsSoundMap (record { n_a = v.n_a; n_b = v.n_b; rows = rows; area_a = areas_of source_of v.n_a rows; area_b = l })) (sym targets)
    (sound_map v columns c.args.area_a.now c.args.area_b.now c.requires.source_faces c.requires.target_faces c.requires.rows c.requires.area_b good covered)))

pub returns-clause-map : goal.returns-clause-map
returns-clause-map c =
    let v = c.args.vars.now in
    let columns : RowColumns = record { col = c.args.col.now; row = c.args.row.now; s = c.args.s.now } in
    let rows : List MapRow = map_rows_of v.n_s columns in
    let is : c.deref.result.now ≡ rows = c.deref.ensures.value ∙ c.in_ok-rows.ensures in
    let sources : c.in_ok-sums.sums.source.items ≡ areas_of source_of v.n_a rows = c.in_ok-sums.ensures.source ∙ ap (areas_of source_of v.n_a) is in
    let targets : c.in_ok-sums.sums.target.items ≡ areas_of target_of v.n_b rows = c.in_ok-sums.ensures.target ∙ ap (areas_of target_of v.n_b) is in
    let first_a = first_same is_sum c.args.area_a.now _ _ _ _ _ (c.deref-2.ensures.value ∙ sources) c.requires.area_a (sym c.in_default-first_other_source.ensures.first) in
    let first_b = first_same is_sum_of_some c.args.area_b.now _ _ _ _ _ (c.deref-3.ensures.value ∙ targets) c.requires.area_b (sym c.in_default-first_other_target.ensures.first) in
    let good_a = all_good (is_sum c.args.area_a.now (areas_of source_of v.n_a rows)) v.n_a first_a in
    let good_b = sums_good c.args.area_b.now (areas_of target_of v.n_b rows) v.n_b (all_good (is_sum_of_some c.args.area_b.now (areas_of target_of v.n_b rows)) v.n_b first_b) in
    let same_a : c.args.area_a.now ≡ c.in_ok-sums.sums.source.items = areas_are c.args.area_a.now (areas_of source_of v.n_a rows) v.n_a c.requires.area_a (length-sums_of source_of measure_of v.n_a rows) good_a ∙ sym sources in
    let same_b : c.args.area_b.now ≡ c.in_ok-sums.sums.target.items = areas_are c.args.area_b.now (areas_of target_of v.n_b rows) v.n_b c.requires.area_b (length-sums_of target_of measure_of v.n_b rows) good_b ∙ sym targets in
    map_is v columns c.args.area_a.now c.args.area_b.now (sym c.in_default.ensures.first) first_a first_b
    ∙ ap₂ (λ (a b : List ℤ). Ok (map_at v columns a b)) same_a same_b
    ∙ ap (λ (l : List MapRow). let m : MapParts = record { n_a = v.n_a; n_b = v.n_b; rows = l; area_a = c.in_ok-sums.sums.source.items; area_b = c.in_ok-sums.sums.target.items } in Ok m) (sym c.in_ok-rows.ensures)
