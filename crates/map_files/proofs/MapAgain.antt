-- A map is read again from the file of its document.
use Rattle.std.proofs.Common.{◌≡◌, ◌==◌, ◌≤◌, ◌<◌, ◌+◌, ◌-◌, ◌^◌, ℕ, zero, suc, ℤ, pos, ◌≤ℤ◌, Bool, true, false, not, ◌||◌, List, [], ◌∷◌, length, All, AllPairs, Ok, FitsSigned, refl, ap, ap₂, subst, sym, ◌∙◌, arith, slice_index_or}
use Rattle.std.specs.Int.{w32, w64}
use Rattle.std.specs.Ordering.{int_eq}
use Rattle.std.proofs.lemmas.Int.{ints, fits_signed_from_abs}
use Rattle.std.proofs.lemmas.Bool.{le-leb}
use Rattle.std.proofs.lemmas.Bool.Decides.{nat_tests, Decides-int_eq}
use Rattle.std.proofs.lemmas.List.{ext_get_or, get_or-map}
use Rattle.std.proofs.lemmas.List.Elements.{All-from_recursion, All-map}
use Rattle.std.proofs.lemmas.List.FromFn.{get_or-map-range_with_len}
use Rattle.map_rows.specs.declared.rows.MapRow.{MapRow}
use Rattle.map_rows.specs.Maps.{MapParts, ComesBefore, IsSoundRow, IsSoundMap, source_of, target_of, measure_of, areas_of, sum_at, HasMeasure}
use Rattle.map_rows.proofs.FaceSums.{area_bounds, length-sums_of, get_or-sums_of}
use Rattle.map_rows.proofs.AreaSums.{measures}
use Rattle.nc_write.specs.File.{file_of}
use Rattle.nc_format.specs.declared.NcFile.{NcFile}
use Rattle.nc_format.specs.Placing.{placed}
use Rattle.nc_format.specs.Header.{IsHeader}
use Rattle.nc_format.specs.Written.{header_of, HasTypedValues}
use Rattle.nc_format.proofs.Whole.{one_header}
use Rattle.nc_format.proofs.Inside.{doc_header}
use Rattle.nc_format.proofs.Gathered.{doc_values}
use Rattle.exodus_mesh.specs.declared.kinds.NumberKind.TheVariants.{Int, Long}
use Rattle.exodus_mesh.specs.declared.ids.NameId.TheVariants.{Col, Row, S, AreaA, AreaB}
use Rattle.exodus_mesh.specs.Names.{name_of}
use Rattle.exodus_mesh.specs.VarLens.{lens_at, var_len}
use Rattle.exodus_mesh.specs.MeshIn.{values_in}
use Rattle.exodus_mesh.proofs.DocLengths.{not_zero}
use Rattle.map_files.specs.declared.vars.MapVars.{MapVars}
use Rattle.exodus_mesh.specs.Pairs.{is_within, at_row, exceeds, has_good_faces}
use Rattle.exodus_mesh.specs.Columns.{column_in}
use Rattle.map_files.specs.MapDocument.{col_column, row_column, measure_column, map_document}
use Rattle.map_files.specs.MapNames.{list_in, map_vars_in}
use Rattle.map_files.specs.MapValues.{RowColumns, is_good_map_row, map_row_at, map_rows_of, is_sum, map_of}
use Rattle.map_files.specs.MapIn.{map_in}
use Rattle.exodus_mesh.proofs.FirstNot.{AllGood, none_is}
use Rattle.map_files.proofs.MapFaults.{map_is, rows_len}
use Rattle.map_files.proofs.ReadMaps.{map_in_is}
use Rattle.map_files.proofs.MapLength.{some_row, area_b_len, map_document_form}
use Rattle.exodus_mesh.proofs.GoodPairs.{and_true, or_true, within_true}

-- Names.

abbrev file_for : MapParts → NcFile
file_for m = header_of (map_document m)

same_true : (n : ℕ) → (n == n) ≡ true
same_true n = grind (arith, nat_tests)

col_again : (m : MapParts) → 1 ≤ length m.rows → length m.rows ≤ 8388608 → list_in (file_for m) Int 8388608 Col ≡ Ok (0, length m.rows)
unfolding list_in var_len lens_at name_of map_document placed
col_again m some few = rw (not_zero (length m.rows) some, le-leb (length m.rows) 8388608 few) refl

row_again : (m : MapParts) → 1 ≤ length m.rows → column_in (file_for m) Int (length m.rows) Row ≡ Ok 1
unfolding column_in var_len lens_at name_of map_document placed
row_again m some = rw (not_zero (length m.rows) some, same_true (length m.rows)) refl

s_again : (m : MapParts) → 1 ≤ length m.rows → column_in (file_for m) Long (length m.rows) S ≡ Ok 2
unfolding column_in var_len lens_at name_of map_document placed
s_again m some = rw (not_zero (length m.rows) some, same_true (length m.rows)) refl

area_a_again : (m : MapParts) → 1 ≤ m.n_a → m.n_a ≤ 1048576 → list_in (file_for m) Long 1048576 AreaA ≡ Ok (3, m.n_a)
unfolding list_in var_len lens_at name_of map_document placed
area_a_again m some few = rw (not_zero m.n_a some, le-leb m.n_a 1048576 few) refl

area_b_again : (m : MapParts) → 1 ≤ m.n_b → m.n_b ≤ 1048576 → list_in (file_for m) Long 1048576 AreaB ≡ Ok (4, m.n_b)
unfolding list_in var_len lens_at name_of map_document placed
area_b_again m some few = rw (not_zero m.n_b some, le-leb m.n_b 1048576 few) refl

-- a map by the counts of its document
abbrev vars_of : MapParts → MapVars
vars_of m = record { n_a = m.n_a; n_b = m.n_b; n_s = length m.rows; vars = 0 ∷ 1 ∷ 2 ∷ 3 ∷ 4 ∷ [] }

found : (m : MapParts) → IsSoundMap m → map_vars_in (file_for m) ≡ Ok (vars_of m)
unfolding map_vars_in
found m h =
    let some = some_row m h in
    rw (col_again m some h.count, row_again m some, s_again m some, area_a_again m h.source_faces.0 h.source_faces.1, area_b_again m h.target_faces.0 h.target_faces.1) refl

-- Numbers.

int_fits : (n : ℕ) → n < 2 ^ 31 → FitsSigned w32 (pos n)
int_fits n below = fits_signed_from_abs w32 (pos n) (omega (arith, below))

long_fits : (z : ℤ) → pos 0 ≤ℤ z → z ≤ℤ pos 9223372036854775807 → FitsSigned w64 z
long_fits z least greatest = fits_signed_from_abs w64 z (omega (arith, ints, least, greatest))

areas_fit : (face_of : MapRow → ℕ) (n : ℕ) (rows : List MapRow) → All HasMeasure rows → length rows ≤ 8388608 → All (FitsSigned w64) (areas_of face_of n rows)
areas_fit face_of n rows all few k d below =
    let inside : k < n = omega (arith, below, length-sums_of face_of measure_of n rows) in
    let bounds = area_bounds face_of rows (1 + k) all in
    subst (FitsSigned w64) (sym (get_or-sums_of face_of measure_of n rows k (1 + k) d inside refl)) (long_fits (sum_at face_of measure_of rows (1 + k)) bounds.0 (omega (arith, ints, bounds.1, few)))

-- the numbers of the five variables
record AreWritten (m : MapParts) (bytes : List ℕ) : Type 0 where
  pub col : values_in (file_for m) bytes 0 ≡ col_column m.rows
  pub row : values_in (file_for m) bytes 1 ≡ row_column m.rows
  pub s : values_in (file_for m) bytes 2 ≡ measure_column m.rows
  pub area_a : values_in (file_for m) bytes 3 ≡ m.area_a
  pub area_b : values_in (file_for m) bytes 4 ≡ m.area_b

values_again : (m : MapParts) → IsSoundMap m → AreWritten m (file_of (map_document m))
unfolding map_document
values_again m h =
    let doc = map_document m in
    let rows = m.rows in
    let sound : All HasMeasure rows = measures m.n_a m.n_b rows h.rows in
    let cols : All (FitsSigned w32) (col_column rows) = All-map (FitsSigned w32) (λ (r : MapRow). pos r.col) rows (λ i d below. int_fits (slice_index_or rows i d).col (omega (arith, (h.rows i d below).source.1, h.source_faces.1))) in
    let targets : All (FitsSigned w32) (row_column rows) = All-map (FitsSigned w32) (λ (r : MapRow). pos r.row) rows (λ i d below. int_fits (slice_index_or rows i d).row (omega (arith, (h.rows i d below).target.1, h.target_faces.1))) in
    let longs : All (FitsSigned w64) (measure_column rows) =
    All-map (FitsSigned w64) measure_of rows (λ i d below. long_fits (slice_index_or rows i d).s (omega (arith, ints, (h.rows i d below).least)) (omega (arith, ints, (h.rows i d below).greatest))) in
    let area_a : All (FitsSigned w64) m.area_a = subst (λ (l : List ℤ). All (FitsSigned w64) l) (sym h.source_areas) (areas_fit source_of m.n_a rows sound h.count) in
    let area_b : All (FitsSigned w64) m.area_b = subst (λ (l : List ℤ). All (FitsSigned w64) l) (sym h.target_areas) (areas_fit target_of m.n_b rows sound h.count) in
    let typed : All HasTypedValues doc.vars = All-from_recursion HasTypedValues doc.vars (cols, (targets, (longs, (area_a, (area_b, tt))))) in
    let all = doc_values doc (map_document_form m h) typed in
    record { col = all.0; row = all.1.0; s = all.1.1.0; area_a = all.1.1.1.0; area_b = all.1.1.1.1.0 }

-- Rows.

-- the numbers that are written
abbrev written : List MapRow → RowColumns
written rows = record { col = col_column rows; row = row_column rows; s = measure_column rows }

abbrev any_row : MapRow
any_row = record { col = 0; row = 0; s = pos 0 }

abbrev at : List MapRow → ℕ → MapRow
at rows r = slice_index_or rows r any_row

col_is : (rows : List MapRow) (r : ℕ) → r < length rows → at_row (col_column rows) r ≡ pos (at rows r).col
col_is rows r below = get_or-map (λ (q : MapRow). pos q.col) rows r any_row (pos 0) below

row_is : (rows : List MapRow) (r : ℕ) → r < length rows → at_row (row_column rows) r ≡ pos (at rows r).row
row_is rows r below = get_or-map (λ (q : MapRow). pos q.row) rows r any_row (pos 0) below

s_is : (rows : List MapRow) (r : ℕ) → r < length rows → at_row (measure_column rows) r ≡ (at rows r).s
s_is rows r below = get_or-map measure_of rows r any_row (pos 0) below

one_again : (rows : List MapRow) (r : ℕ) → r < length rows → map_row_at (written rows) r ≡ at rows r
one_again rows r below = rw (col_is rows r below, row_is rows r below, s_is rows r below) refl

rows_again : (rows : List MapRow) → map_rows_of (length rows) (written rows) ≡ rows
rows_again rows =
    ext_get_or any_row (map_rows_of (length rows) (written rows)) rows (rows_len (written rows) (length rows)) (λ r below.
    let inside : r < length rows = omega (arith, below, rows_len (written rows) (length rows)) in
    get_or-map-range_with_len (map_row_at (written rows)) 0 (length rows) r r any_row inside (omega arith) ∙ one_again rows r inside)

exceeds_true : (p q : MapRow) → ComesBefore p q → exceeds (pos p.col) (pos p.row) (pos q.col) (pos q.row) ≡ true
exceeds_true p q h = grind (arith, ints, Decides-int_eq, h)

order_again : (rows : List MapRow) (r : ℕ) → r < length rows → AllPairs ComesBefore rows → (r == 0 || exceeds (at_row (col_column rows) (r - 1)) (at_row (row_column rows) (r - 1)) (at_row (col_column rows) r) (at_row (row_column rows) r)) ≡ true
order_again rows zero below ascending = refl
order_again rows (suc j) below ascending =
    let last : suc j - 1 ≡ j = omega arith in
    let there : j < length rows = omega (arith, below) in
    let before : ComesBefore (at rows j) (at rows (suc j)) = ascending j (suc j) any_row (omega arith) below in
    or_true (suc j == 0) (exceeds (at_row (col_column rows) (suc j - 1)) (at_row (row_column rows) (suc j - 1)) (at_row (col_column rows) (suc j)) (at_row (row_column rows) (suc j)))
    (ap (λ i. exceeds (at_row (col_column rows) i) (at_row (row_column rows) i) (at_row (col_column rows) (suc j)) (at_row (row_column rows) (suc j))) last
    ∙ ap₂ (λ a b. exceeds a b (at_row (col_column rows) (suc j)) (at_row (row_column rows) (suc j))) (col_is rows j there) (row_is rows j there)
    ∙ ap₂ (λ c d. exceeds (pos (at rows j).col) (pos (at rows j).row) c d) (col_is rows (suc j) below) (row_is rows (suc j) below)
    ∙ exceeds_true (at rows j) (at rows (suc j)) before)

measure_true : (z : ℤ) → pos 1 ≤ℤ z → z ≤ℤ pos 1099511627775 → is_within 1 1099511627775 z ≡ true
measure_true z least greatest = grind (arith, ints, least, greatest)

rows_good : (m : MapParts) → IsSoundMap m → AllGood (is_good_map_row m.n_a m.n_b (written m.rows)) (length m.rows)
unfolding is_good_map_row has_good_faces
rows_good m h r below =
    let rows = m.rows in
    let q = at rows r in
    let sound : IsSoundRow m.n_a m.n_b q = h.rows r any_row below in
    let source : is_within 1 m.n_a (at_row (col_column rows) r) ≡ true = ap (is_within 1 m.n_a) (col_is rows r below) ∙ within_true 1 m.n_a q.col sound.source.0 sound.source.1 in
    let target : is_within 1 m.n_b (at_row (row_column rows) r) ≡ true = ap (is_within 1 m.n_b) (row_is rows r below) ∙ within_true 1 m.n_b q.row sound.target.0 sound.target.1 in
    let measure : is_within 1 1099511627775 (at_row (measure_column rows) r) ≡ true = ap (is_within 1 1099511627775) (s_is rows r below) ∙ measure_true q.s sound.least sound.greatest in
    and_true _ _ (and_true _ _ (and_true _ _ source target) (order_again rows r below h.ascending)) measure

-- Areas.

sum_true : (areas sums : List ℤ) (k : ℕ) → areas ≡ sums → is_sum areas sums k ≡ true
sum_true areas sums k e = (Decides-int_eq (at_row areas k) (at_row sums k)).1 (ap (λ (l : List ℤ). at_row l k) e)

some_true : (z : ℤ) → pos 1 ≤ℤ z → not (int_eq z (pos 0)) ≡ true
some_true z h = by_test (int_eq z (pos 0)) refl
  where
    by_test : (b : Bool) → int_eq z (pos 0) ≡ b → not b ≡ true
    by_test true e = absurd (let zero_is : z ≡ pos 0 = (Decides-int_eq z (pos 0)).0 e in omega (arith, ints, h, zero_is))
    by_test false e = refl

again : (m : MapParts) → IsSoundMap m → map_of (vars_of m) (written m.rows) m.area_a m.area_b ≡ Ok m
again m h =
    let c = written m.rows in
    let same = rows_again m.rows in
    let sources : m.area_a ≡ areas_of source_of m.n_a (map_rows_of (length m.rows) c) = h.source_areas ∙ ap (areas_of source_of m.n_a) (sym same) in
    let targets : m.area_b ≡ areas_of target_of m.n_b (map_rows_of (length m.rows) c) = h.target_areas ∙ ap (areas_of target_of m.n_b) (sym same) in
    let some : (k : ℕ) → k < m.n_b → pos 1 ≤ℤ at_row m.area_b k = λ k below. h.covered k (pos 0) (omega (arith, below, area_b_len m h)) in
    map_is (vars_of m) c m.area_a m.area_b (none_is _ (length m.rows) (rows_good m h)) (none_is _ m.n_a (λ k below. sum_true m.area_a _ k sources))
    (none_is _ m.n_b (λ k below. and_true _ _ (sum_true m.area_b _ k targets) (some_true (at_row m.area_b k) (some k below))))
    ∙ ap (λ (rows : List MapRow). Ok (record { n_a = m.n_a; n_b = m.n_b; rows = rows; area_a = m.area_a; area_b = m.area_b })) same

-- the file has one header alone
pub map_again : (m : MapParts) (f : NcFile) → IsSoundMap m → IsHeader (file_of (map_document m)) (length (file_of (map_document m))) f → map_in f (file_of (map_document m)) ≡ Ok m
map_again m f h header =
    let doc = map_document m in
    let bytes = file_of doc in
    let w = values_again m h in
    let one : header_of doc ≡ f = one_header bytes (length bytes) (header_of doc) f (doc_header doc (map_document_form m h)) header in
    let here : map_in (file_for m) bytes ≡ Ok m =
    map_in_is (file_for m) bytes (vars_of m) (found m h)
    ∙ ap (λ (l : List ℤ). map_of (vars_of m) (record { col = l; row = values_in (file_for m) bytes 1; s = values_in (file_for m) bytes 2 }) (values_in (file_for m) bytes 3) (values_in (file_for m) bytes 4)) w.col
    ∙ ap (λ (l : List ℤ). map_of (vars_of m) (record { col = col_column m.rows; row = l; s = values_in (file_for m) bytes 2 }) (values_in (file_for m) bytes 3) (values_in (file_for m) bytes 4)) w.row
    ∙ ap (λ (l : List ℤ). map_of (vars_of m) (record { col = col_column m.rows; row = row_column m.rows; s = l }) (values_in (file_for m) bytes 3) (values_in (file_for m) bytes 4)) w.s
    ∙ ap₂ (λ (a b : List ℤ). map_of (vars_of m) (written m.rows) a b) w.area_a w.area_b
    ∙ again m h
    in
    subst (λ (g : NcFile). map_in g bytes ≡ Ok m) one here
