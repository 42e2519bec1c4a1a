-- How long the file of a map is, and that its document is well formed.
use Rattle.std.proofs.Common.{◌≡◌, ◌≢◌, ◌+◌, ◌*◌, ◌%◌, ◌≤◌, ◌<◌, ◌^◌, ◌==◌, ℕ, ℤ, pos, false, cond, List, [], ◌∷◌, length, drop, refl, ap, ap₂, sym, ◌∙◌, if◌then◌else◌, arith, lit<, slice_index, All, sum_by}
use Rattle.std.specs.Prelude.{codes}
use Rattle.std.proofs.Math.Nat.{mul-mod_right}
use Rattle.std.proofs.lemmas.Int.{ints as int_rules}
use Rattle.std.proofs.lemmas.List.{length-map}
use Rattle.std.proofs.lemmas.List.Elements.{All-from_recursion}
use Rattle.std.specs.List.{flat_map, count_by, AllByRecursion}
use Rattle.map_rows.specs.declared.rows.MapRow.{MapRow}
use Rattle.map_rows.specs.Maps.{MapParts, IsSoundMap, source_of, target_of, measure_of, sum_at}
use Rattle.map_rows.proofs.FaceSums.{length-sums_of, sum_at-none}
use Rattle.map_rows.proofs.Bounds.{target_area, target_covered}
use Rattle.nc_write.specs.declared.DocVar.{DocVar}
use Rattle.nc_write.specs.declared.NcDoc.{NcDoc}
use Rattle.nc_write.specs.declared.Values.TheVariants.{Int, Long}
use Rattle.nc_write.specs.Kinds.{size_of}
use Rattle.nc_write.specs.Extents.{rounded, lens_of, product_of, has_records}
use Rattle.nc_write.specs.Widths.{width, number_bytes}
use Rattle.nc_write.specs.File.{version_of, kind_of, numbers_of, is_record, fixed_data, header_len, dimension, attribute, name_bytes, variable, file_of}
use Rattle.nc_write.specs.Form.{IsWellFormed, full_lens}
use Rattle.nc_write.proofs.PartLengths.{header_len_is, length_variable}
use Rattle.nc_write.proofs.Places.{length_fixed_data, length_file_of_fixed}
use Rattle.exodus_mesh.proofs.DocLengths.{ints_length, not_zero, full_len}
use Rattle.exodus_mesh.specs.Columns.{variable_of}
use Rattle.map_files.specs.MapDocument.{col_column, row_column, measure_column, map_dims, map_vars, map_document, map_file_len}
use Rattle.exodus_mesh.proofs.DocSums.{sum_of_five}

-- A map has a row.

pub area_b_len : (m : MapParts) → IsSoundMap m → length m.area_b ≡ m.n_b
area_b_len m h = ap (length {A = ℤ}) h.target_areas ∙ length-sums_of target_of measure_of m.n_b m.rows

-- each target has a row, so there is one
pub some_row : (m : MapParts) → IsSoundMap m → 1 ≤ length m.rows
some_row m h = by_rows m.rows refl
  where
    by_rows : (rows : List MapRow) → m.rows ≡ rows → 1 ≤ length m.rows
    by_rows [] e =
        let none : sum_at target_of measure_of m.rows 1 ≡ pos 0 = ap (λ (l : List MapRow). sum_at target_of measure_of l 1) e ∙ sum_at-none target_of measure_of 1 in
        absurd (omega (arith, int_rules, target_covered m 1 h (omega arith) h.target_faces.0, target_area m 1 h (omega arith) h.target_faces.0, none))
    by_rows (r ∷ rs) e = omega (arith, ap (length {A = MapRow}) e)

pub area_a_len : (m : MapParts) → IsSoundMap m → length m.area_a ≡ m.n_a
area_a_len m h = ap (length {A = ℤ}) h.source_areas ∙ length-sums_of source_of measure_of m.n_a m.rows

-- The header, in version 5.

wide : width 5 ≡ 8
unfolding width
wide = refl

version_is : (m : MapParts) → version_of (map_document m) ≡ 5
unfolding version_of map_document
version_is m = refl

dims_length : (n_a n_b n_s : ℕ) → length (flat_map (dimension 5) (map_dims n_a n_b n_s)) ≡ 60
unfolding dimension name_bytes number_bytes width
dims_length n_a n_b n_s = refl

name_lengths : (length (name_bytes 5 (codes "col")) ≡ 12) × (length (name_bytes 5 (codes "row")) ≡ 12) × (length (name_bytes 5 (codes "S")) ≡ 12) × (length (name_bytes 5 (codes "area_a")) ≡ 16) × (length (name_bytes 5 (codes "area_b")) ≡ 16)
unfolding name_bytes number_bytes width
name_lengths = (refl, refl, refl, refl, refl)

-- the part of a header of version 5 that a variable of one dimension takes
var_length : (doc : NcDoc) (v : DocVar) (text : ℕ) → version_of doc ≡ 5 → length (name_bytes 5 v.name) ≡ text → length v.dims ≡ 1 → length (variable doc 0 v) ≡ text + 48
var_length doc v text version text_is count_is =
    length_variable 5 v doc 0 (sym version) ∙ ap₂ (λ (a w : ℕ). a + w * (length v.dims + 3) + 16) text_is wide ∙ ap (λ (n : ℕ). text + 8 * (n + 3) + 16) count_is ∙ omega arith

header_is : (doc : NcDoc) (m : MapParts) → version_of doc ≡ 5 → doc.dims ≡ map_dims m.n_a m.n_b (length m.rows) → doc.atts ≡ [] → doc.vars ≡ map_vars m.rows m.area_a m.area_b → header_len doc ≡ 416
header_is doc m version dims atts vars =
    let eight : width (version_of doc) ≡ 8 = ap width version ∙ wide in
    let no_atts : length (flat_map (attribute (version_of doc)) doc.atts) ≡ 0 = ap (λ l. length (flat_map (attribute (version_of doc)) l)) atts in
    let dims_are : length (flat_map (dimension (version_of doc)) doc.dims) ≡ 60 = ap₂ (λ v l. length (flat_map (dimension v) l)) version dims ∙ dims_length m.n_a m.n_b (length m.rows) in
    let col = variable_of (codes "col") (2 ∷ []) (Int (col_column m.rows)) in
    let rows = variable_of (codes "row") (2 ∷ []) (Int (row_column m.rows)) in
    let s = variable_of (codes "S") (2 ∷ []) (Long (measure_column m.rows)) in
    let area_a = variable_of (codes "area_a") (0 ∷ []) (Long m.area_a) in
    let area_b = variable_of (codes "area_b") (1 ∷ []) (Long m.area_b) in
    let len : DocVar → ℕ = λ v. length (variable doc 0 v) in
    let vars_are : sum_by len doc.vars ≡ len col + len rows + len s + len area_a + len area_b = ap (λ l. sum_by len l) vars ∙ sum_of_five len col rows s area_a area_b in
    omega (
      arith,
      header_len_is doc,
      eight,
      no_atts,
      dims_are,
      vars_are,
      var_length doc col 12 version name_lengths.0 refl,
      var_length doc rows 12 version name_lengths.1 refl,
      var_length doc s 12 version name_lengths.2 refl,
      var_length doc area_a 16 version name_lengths.3 refl,
      var_length doc area_b 16 version name_lengths.4 refl,
    )

-- The data.

mod_eight : (k : ℕ) → (8 * k) % 4 ≡ 0
mod_eight k = let e : 8 * k ≡ 4 * (2 * k) = omega arith in ap (λ n. n % 4) e ∙ mul-mod_right 4 (2 * k)

-- no padding behind values of eight bytes
rounded_eight : (k : ℕ) → rounded (8 * k) ≡ 8 * k
rounded_eight k = omega (arith, mod_eight k)

longs_length : (doc : NcDoc) (v : DocVar) (zs : List ℤ) (n : ℕ) → is_record doc v ≡ false → v.values ≡ Long zs → length zs ≡ n → length (fixed_data doc v) ≡ 8 * n
longs_length doc v zs n fixed values count =
    length_fixed_data doc v
    ∙ ap (λ b. cond b 0 (rounded (size_of (kind_of v.values) * length (numbers_of v.values)))) fixed
    ∙ ap (λ vs. rounded (size_of (kind_of vs) * length (numbers_of vs))) values
    ∙ rounded_eight (length zs)
    ∙ ap (λ (k : ℕ). 8 * k) count

over : (m : MapParts) (id n : ℕ) (text : List ℕ) (values : _) → slice_index (lens_of (map_document m).dims) id ≡ n → 1 ≤ n → is_record (map_document m) (variable_of text (id ∷ []) values) ≡ false
unfolding has_records
over m id n text values is some = ap (λ k. k == 0) is ∙ not_zero n some

lens_are : (m : MapParts) → (slice_index (lens_of (map_document m).dims) 0 ≡ m.n_a) × (slice_index (lens_of (map_document m).dims) 1 ≡ m.n_b) × (slice_index (lens_of (map_document m).dims) 2 ≡ length m.rows)
unfolding map_document
lens_are m = (refl, refl, refl)

parts : (m : MapParts) → ((map_document m).records ≡ 0) × ((map_document m).dims ≡ map_dims m.n_a m.n_b (length m.rows)) × ((map_document m).atts ≡ []) × ((map_document m).vars ≡ map_vars m.rows m.area_a m.area_b)
unfolding map_document
parts m = (refl, refl, refl, refl)

-- the length of the file of a map
pub length_map_file : (m : MapParts) → IsSoundMap m → length (file_of (map_document m)) ≡ map_file_len m.n_a m.n_b (length m.rows)
length_map_file m h =
    let doc = map_document m in
    let p = parts m in
    let at = lens_are m in
    let n = length m.rows in
    let some = some_row m h in
    let col = variable_of (codes "col") (2 ∷ []) (Int (col_column m.rows)) in
    let row = variable_of (codes "row") (2 ∷ []) (Int (row_column m.rows)) in
    let s = variable_of (codes "S") (2 ∷ []) (Long (measure_column m.rows)) in
    let area_a = variable_of (codes "area_a") (0 ∷ []) (Long m.area_a) in
    let area_b = variable_of (codes "area_b") (1 ∷ []) (Long m.area_b) in
    let len : DocVar → ℕ = λ v. length (fixed_data doc v) in
    let all : sum_by len doc.vars ≡ len col + len row + len s + len area_a + len area_b = ap (λ l. sum_by len l) p.3 ∙ sum_of_five len col row s area_a area_b in
    let cols : len col ≡ 4 * n = ints_length doc col (col_column m.rows) n (over m 2 n (codes "col") (Int (col_column m.rows)) at.2 some) refl (length-map m.rows (λ (r : MapRow). pos r.col)) in
    let rows : len row ≡ 4 * n = ints_length doc row (row_column m.rows) n (over m 2 n (codes "row") (Int (row_column m.rows)) at.2 some) refl (length-map m.rows (λ (r : MapRow). pos r.row)) in
    let measures : len s ≡ 8 * n = longs_length doc s (measure_column m.rows) n (over m 2 n (codes "S") (Long (measure_column m.rows)) at.2 some) refl (length-map m.rows measure_of) in
    let sources : len area_a ≡ 8 * m.n_a = longs_length doc area_a m.area_a m.n_a (over m 0 m.n_a (codes "area_a") (Long m.area_a) at.0 h.source_faces.0) refl (area_a_len m h) in
    let targets : len area_b ≡ 8 * m.n_b = longs_length doc area_b m.area_b m.n_b (over m 1 m.n_b (codes "area_b") (Long m.area_b) at.1 h.target_faces.0) refl (area_b_len m h) in
    omega (arith, length_file_of_fixed doc p.0, header_is doc m (version_is m) p.1 p.2 p.3, all, cols, rows, measures, sources, targets)

-- The rules of a document.

one_record_dim : (n_a n_b n_s : ℕ) → 1 ≤ n_a → 1 ≤ n_b → 1 ≤ n_s → count_by (λ d. d.len == 0) (map_dims n_a n_b n_s) ≤ 1
one_record_dim n_a n_b n_s a b s = rw (not_zero n_a a, not_zero n_b b, not_zero n_s s) (omega arith)

values_fill : (m : MapParts) → IsSoundMap m → AllByRecursion (λ v. length (numbers_of v.values) ≡ product_of (full_lens (map_document m)) v.dims) (map_vars m.rows m.area_a m.area_b)
unfolding map_document product_of
values_fill m h =
    let n = length m.rows in
    let along : n ≡ (if n == 0 then 0 else n) * 1 = sym (omega (arith, full_len n)) in
    let sources : m.n_a ≡ (if m.n_a == 0 then 0 else m.n_a) * 1 = sym (omega (arith, full_len m.n_a)) in
    let targets : m.n_b ≡ (if m.n_b == 0 then 0 else m.n_b) * 1 = sym (omega (arith, full_len m.n_b)) in (
      length-map m.rows (λ (r : MapRow). pos r.col) ∙ along,
      (
        length-map m.rows (λ (r : MapRow). pos r.row) ∙ along,
        (length-map m.rows measure_of ∙ along, (area_a_len m h ∙ sources, (area_b_len m h ∙ targets, tt))),
      ),
    )

short_file : (m : MapParts) → IsSoundMap m → length (file_of (map_document m)) < 2 ^ 63
short_file m h = omega (arith, length_map_file m h, h.source_faces.1, h.target_faces.1, h.count)

-- the document of a map is well formed
pub map_document_form : (m : MapParts) → IsSoundMap m → IsWellFormed (map_document m)
unfolding map_document
map_document_form m h =
    let doc = map_document m in
    let n = length m.rows in
    let first : (k : ℕ) → k < 3 → All (λ id. id < 3) (k ∷ []) = λ k lt. All-from_recursion (λ id. id < 3) (k ∷ []) (lt, tt) in
    let alone : All (λ id. slice_index (lens_of doc.dims) id ≢ 0) [] = All-from_recursion (λ id. slice_index (lens_of doc.dims) id ≢ 0) [] tt in
    record {
      lens = All-from_recursion (λ d. d.len ≤ 4294967295) doc.dims (omega (arith, h.source_faces.1), (omega (arith, h.target_faces.1), (omega (arith, h.count), tt)));
      one_record_dim = one_record_dim m.n_a m.n_b n h.source_faces.0 h.target_faces.0 (some_row m h);
      ids = All-from_recursion (λ v. All (λ id. id < 3) v.dims) doc.vars (first 2 (lit< tt), (first 2 (lit< tt), (first 2 (lit< tt), (first 0 (lit< tt), (first 1 (lit< tt), tt)))));
      record_dim_first = All-from_recursion (λ v. All (λ id. slice_index (lens_of doc.dims) id ≢ 0) (drop 1 v.dims)) doc.vars (alone, (alone, (alone, (alone, (alone, tt)))));
      values = All-from_recursion (λ v. length (numbers_of v.values) ≡ product_of (full_lens doc) v.dims) doc.vars (values_fill m h);
      records = lit< tt;
      no_records = λ _. refl;
      short_lists = record {
        dims = lit< tt;
        dim_names = All-from_recursion (λ d. length d.name < 2 ^ 31) doc.dims (lit< tt, (lit< tt, (lit< tt, tt)));
        atts = lit< tt;
        att_names = All-from_recursion (λ a. length a.name < 2 ^ 31) doc.atts tt;
        vars = lit< tt;
        var_names = All-from_recursion (λ v. length v.name < 2 ^ 31) doc.vars (lit< tt, (lit< tt, (lit< tt, (lit< tt, (lit< tt, tt)))));
        ids = All-from_recursion (λ v. length v.dims < 2 ^ 31) doc.vars (lit< tt, (lit< tt, (lit< tt, (lit< tt, (lit< tt, tt)))));
      };
      file = short_file m h;
    }
