-- How long the file of a document with few variables can be.
use Rattle.std.proofs.Common.{◌≡◌, ℕ, ◌+◌, ◌*◌, ◌<◌, ◌≤◌, ◌^◌, Bool, true, false, ◌==◌, if◌then◌else◌, List, [], ◌∷◌, length, get_or, All, refl, ap, sym, ◌∙◌, arith, sum_by}
use Rattle.std.specs.List.{flat_map}
use Rattle.std.proofs.Math.Nat.{mul_assoc, mul_comm, mul-add, mul-le-mul, mul-le-mul_left, mul-le-mul_right, suc-mul}
use Rattle.std.proofs.lemmas.List.Elements.{All-head, All-tail}
use Rattle.std.proofs.lemmas.List.Sums.{sum_by-cons}
use Rattle.std.proofs.lemmas.List.Concat.{length-flat_map}
use Rattle.nc_write.specs.declared.DocDim.{DocDim}
use Rattle.nc_write.specs.declared.DocAtt.{DocAtt}
use Rattle.nc_write.specs.declared.DocVar.{DocVar}
use Rattle.nc_write.specs.declared.NcDoc.{NcDoc}
use Rattle.nc_write.specs.declared.Values.{Values}
use Rattle.nc_write.specs.declared.Values.TheVariants.{Byte, Int, Long}
use Rattle.nc_write.specs.Kinds.{size_of}
use Rattle.nc_write.specs.Widths.{width}
use Rattle.nc_write.specs.Extents.{rounded, lens_of, piece_count, piece_len, share_of, piece_total}
use Rattle.nc_write.specs.File.{kind_of, numbers_of, version_of, is_record, pads_records, fixed_len, record_len, fixed_total, doc_step, header_len, dimension, attribute, name_bytes, variable, file_of}
use Rattle.nc_write.specs.Form.{HasShortLists, HasItsValues}
use Rattle.nc_write.proofs.PartLengths.{length_name, length_dimension, length_attribute, length_variable, header_len_is}
use Rattle.nc_write.proofs.Places.{length_file_of}

sum_bound : {A : Type 0} (f : A → ℕ) (bound : ℕ) (xs : List A) → All (λ x. f x ≤ bound) xs → sum_by f xs ≤ length xs * bound
sum_bound f bound [] all = omega arith
sum_bound f bound (x ∷ xs) all =
    omega (arith, All-head (λ y. f y ≤ bound) x xs all, sum_bound f bound xs (All-tail (λ y. f y ≤ bound) x xs all), sum_by-cons f x xs, suc-mul (length xs) bound)

times_bound : {A : Type 0} (k : ℕ) (f : A → ℕ) (bound : ℕ) (xs : List A) → All (λ x. k * f x ≤ bound) xs → k * sum_by f xs ≤ length xs * bound
times_bound k f bound [] all = omega arith
times_bound k f bound (x ∷ xs) all =
    omega (
      arith,
      All-head (λ y. k * f y ≤ bound) x xs all,
      times_bound k f bound xs (All-tail (λ y. k * f y ≤ bound) x xs all),
      ap (λ (n : ℕ). k * n) (sum_by-cons f x xs),
      mul-add k (f x) (sum_by f xs),
      suc-mul (length xs) bound,
    )

width_small : (version : ℕ) → width version ≤ 8
unfolding width
width_small version = elim (version == 5) as (λ b. (if b then 8 else 4) ≤ 8) [ true ↦ omega arith | false ↦ omega arith ]

-- Headers.

name_bound : (version : ℕ) (text : List ℕ) → length text < 2 ^ 31 → length (name_bytes version text) ≤ 2 ^ 31 + 16
name_bound version text short = omega (arith, length_name version text, width_small version)

dim_bound : (version : ℕ) (d : DocDim) → length d.name < 2 ^ 31 → length (dimension version d) ≤ 2 ^ 31 + 32
dim_bound version d short = omega (arith, length_dimension version d, name_bound version d.name short, width_small version)

att_bound : (version : ℕ) (a : DocAtt) → length a.name < 2 ^ 31 → length (attribute version a) ≤ 2 ^ 31 + 32
att_bound version a short = omega (arith, length_attribute version a, name_bound version a.name short, width_small version)

var_bound : (doc : NcDoc) (v : DocVar) → length v.name < 2 ^ 31 → length v.dims < 2 ^ 31 → length (variable doc 0 v) ≤ 9 * 2 ^ 31 + 64
var_bound doc v name ids =
    let wide : width (version_of doc) * (length v.dims + 3) ≤ 8 * (length v.dims + 3) = mul-le-mul_right (length v.dims + 3) (width_small (version_of doc)) in
    omega (arith, length_variable (version_of doc) v doc 0 refl, name_bound (version_of doc) v.name name, wide, ids)

vars_bound : (doc : NcDoc) (vs : List DocVar) → All (λ v. length v.name < 2 ^ 31) vs → All (λ v. length v.dims < 2 ^ 31) vs → sum_by (λ v. length (variable doc 0 v)) vs ≤ length vs * (9 * 2 ^ 31 + 64)
vars_bound doc vs names ids = sum_bound (λ v. length (variable doc 0 v)) (9 * 2 ^ 31 + 64) vs (λ k d lt. var_bound doc (get_or vs k d) (names k d lt) (ids k d lt))

-- a document of at most three variables and one attribute
pub record IsSmallDoc (doc : NcDoc) (count : ℕ) : Type 0 where
  pub lists : HasShortLists doc
  pub vars : length doc.vars ≤ 3
  pub atts : length doc.atts ≤ 1
  pub records : doc.records < 2 ^ 32
  pub values : All (HasItsValues doc) doc.vars
  pub few : All (λ v. length (numbers_of v.values) ≤ count) doc.vars

header_bound : (doc : NcDoc) (count : ℕ) → IsSmallDoc doc count → header_len doc ≤ 2 ^ 62 + 2 ^ 40
header_bound doc count h =
    let version = version_of doc in
    let dims : length (flat_map (dimension version) doc.dims) ≤ length doc.dims * (2 ^ 31 + 32) =
    omega (arith, length-flat_map (dimension version) doc.dims, sum_bound (λ d. length (dimension version d)) (2 ^ 31 + 32) doc.dims (λ k d lt. dim_bound version (get_or doc.dims k d) (h.lists.dim_names k d lt))) in
    let atts : length (flat_map (attribute version) doc.atts) ≤ length doc.atts * (2 ^ 31 + 32) =
    omega (arith, length-flat_map (attribute version) doc.atts, sum_bound (λ a. length (attribute version a)) (2 ^ 31 + 32) doc.atts (λ k d lt. att_bound version (get_or doc.atts k d) (h.lists.att_names k d lt))) in
    let vars = vars_bound doc doc.vars h.lists.var_names h.lists.ids in
    let most_dims : length doc.dims * (2 ^ 31 + 32) ≤ 2 ^ 31 * (2 ^ 31 + 32) = (let few : length doc.dims ≤ 2 ^ 31 = omega (arith, h.lists.dims) in mul-le-mul_right (2 ^ 31 + 32) few) in
    let most_atts : length doc.atts * (2 ^ 31 + 32) ≤ 1 * (2 ^ 31 + 32) = mul-le-mul_right (2 ^ 31 + 32) h.atts in
    let most_vars : length doc.vars * (9 * 2 ^ 31 + 64) ≤ 3 * (9 * 2 ^ 31 + 64) = mul-le-mul_right (9 * 2 ^ 31 + 64) h.vars in
    omega (arith, header_len_is doc, width_small version, dims, atts, vars, most_dims, most_atts, most_vars)

-- Data.

size_small : (values : Values) → size_of (kind_of values) ≤ 8
size_small (Byte zs) = omega arith
size_small (Int zs) = omega arith
size_small (Long zs) = omega arith

-- the bytes of so many values
bytes_bound : (size count values : ℕ) → size ≤ 8 → values ≤ count → size * values ≤ 8 * count
bytes_bound size count values small few = mul-le-mul small few

share_bound : (several : Bool) (records piece bound : ℕ) → records < 2 ^ 32 → records * piece ≤ bound → records * share_of several true piece ≤ bound + 3 * 2 ^ 32
share_bound true records piece bound few h =
    let padded : records * rounded piece ≤ records * (piece + 3) = mul-le-mul_left records (omega arith) in
    omega (arith, padded, mul-add records piece 3, h)
share_bound false records piece bound few h = omega (arith, h)

fixed_bound : (doc : NcDoc) (v : DocVar) (count : ℕ) → HasItsValues doc v → length (numbers_of v.values) ≤ count → fixed_len doc v ≤ 8 * count + 3
unfolding piece_len
fixed_bound doc v count values few = split (is_record doc v) values
  where
    split : (b : Bool) → length (numbers_of v.values) ≡ piece_total doc.records b * piece_count (lens_of doc.dims) v.dims → (if b then 0 else rounded (size_of (kind_of v.values) * piece_count (lens_of doc.dims) v.dims)) ≤ 8 * count + 3
    split true h = omega arith
    split false h = omega (arith, bytes_bound (size_of (kind_of v.values)) count (piece_count (lens_of doc.dims) v.dims) (size_small v.values) (omega (arith, h, few)))

record_bound : (doc : NcDoc) (v : DocVar) (count : ℕ) → doc.records < 2 ^ 32 → HasItsValues doc v → length (numbers_of v.values) ≤ count → doc.records * record_len doc v ≤ 8 * count + 3 * 2 ^ 32
unfolding piece_len
record_bound doc v count records values few = split (is_record doc v) values
  where
    split : (b : Bool) → length (numbers_of v.values) ≡ piece_total doc.records b * piece_count (lens_of doc.dims) v.dims
        → doc.records * share_of (pads_records doc) b (size_of (kind_of v.values) * piece_count (lens_of doc.dims) v.dims) ≤ 8 * count + 3 * 2 ^ 32
    split true h =
        let size = size_of (kind_of v.values) in
        let one = piece_count (lens_of doc.dims) v.dims in
        let turned : doc.records * (size * one) ≡ size * (doc.records * one) = sym (mul_assoc doc.records size one) ∙ ap (λ (n : ℕ). n * one) (mul_comm doc.records size) ∙ mul_assoc size doc.records one in
        share_bound (pads_records doc) doc.records (size * one) (8 * count) records (omega (arith, turned, bytes_bound size count (doc.records * one) (size_small v.values) (omega (arith, h, few))))
    split false h = omega arith

pub file_bound : (doc : NcDoc) (count : ℕ) → count ≤ 2 ^ 51 → IsSmallDoc doc count → length (file_of doc) < 2 ^ 63
file_bound doc count most h =
    let fixed : fixed_total doc ≤ length doc.vars * (8 * count + 3) = sum_bound (fixed_len doc) (8 * count + 3) doc.vars (λ k d lt. fixed_bound doc (get_or doc.vars k d) count (h.values k d lt) (h.few k d lt)) in
    let records : doc.records * doc_step doc ≤ length doc.vars * (8 * count + 3 * 2 ^ 32) =
    times_bound doc.records (record_len doc) (8 * count + 3 * 2 ^ 32) doc.vars (λ k d lt. record_bound doc (get_or doc.vars k d) count h.records (h.values k d lt) (h.few k d lt)) in
    let most_fixed : length doc.vars * (8 * count + 3) ≤ 3 * (8 * count + 3) = mul-le-mul_right (8 * count + 3) h.vars in
    let most_records : length doc.vars * (8 * count + 3 * 2 ^ 32) ≤ 3 * (8 * count + 3 * 2 ^ 32) = mul-le-mul_right (8 * count + 3 * 2 ^ 32) h.vars in
    omega (arith, length_file_of doc h.values, header_bound doc count h, fixed, records, most_fixed, most_records, most)
