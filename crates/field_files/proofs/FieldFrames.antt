-- What a field file has over its dimensions: its lengths, the values of its variables, and that it is well formed.
use Rattle.std.proofs.Common.{◌≡◌, ◌≢◌, ℕ, ◌+◌, ◌*◌, ◌<◌, ◌≤◌, ◌^◌, Bool, true, false, not, ◌==◌, if◌then◌else◌, inl, inr, List, [], ◌∷◌, ◌++◌, length, map, drop, get_or, All, slice_index, codes, refl, ap, ap₂, sym, subst, ◌∙◌, arith, lit<, length-append}
use Rattle.std.specs.List.{count_by}
use Rattle.std.proofs.Math.Nat.{mul-le-mul, mul-le-mul_left}
use Rattle.std.proofs.lemmas.Bool.{cases_lt, eqb-true}
use Rattle.std.proofs.lemmas.Bool.Decides.{nat_tests}
use Rattle.std.proofs.lemmas.List.{get_or-map, get_or_past, get_or_append_left, get_or_at, length-map}
use Rattle.std.proofs.lemmas.List.Elements.{All-head, All-tail, All-nil, All-cons, All-map, All-weaker, All-push, All-filter}
use Rattle.std.proofs.lemmas.List.Sums.{sum_by-cons}
use Rattle.nc_write.specs.declared.DocDim.{DocDim}
use Rattle.nc_write.specs.declared.DocAtt.{DocAtt}
use Rattle.nc_write.specs.declared.DocVar.{DocVar}
use Rattle.nc_write.specs.Extents.{lens_of, product_of, has_records, piece_count, piece_total}
use Rattle.nc_write.specs.File.{numbers_of}
use Rattle.nc_write.specs.Form.{IsWellFormed, HasShortLists, HasItsValues, full_lens}
use Rattle.nc_format.specs.declared.NcFile.{NcFile}
use Rattle.exodus_mesh.specs.MeshDocument.{dimension_of}
use Rattle.field_files.specs.declared.FieldVar.{FieldVar}
use Rattle.field_files.specs.FieldShapes.{whole_lens, slices_of}
use Rattle.field_files.specs.FieldDocument.{leading_ids, each_once, place_among, dim_at, field_dims, field_ids, field_records, document_over}
use Rattle.field_files.proofs.FieldValues.{whole_at, whole_apart, product_append, some_times, product_pieces}
use Rattle.field_files.proofs.FileBounds.{file_bound}
use Rattle.field_files.proofs.EachOnce.{at_place, all_kept, each_once_short, without}

-- The lengths of the dimensions that are kept.

-- a dimension that is copied has its length
len_copied : (dims : List DocDim) (id : ℕ) → (dim_at dims id).len ≡ slice_index (lens_of dims) id
len_copied dims id = elim (cases_lt id (length dims)) [
  | inl within ↦ sym (get_or-map (λ (d : DocDim). d.len) dims id (dimension_of [] 0) 0 within)
  | inr past ↦
      ap (λ (d : DocDim). d.len) (get_or_past dims id (dimension_of [] 0) past)
      ∙ sym (get_or_past (map (λ (d : DocDim). d.len) dims) id 0 (omega (arith, past, length-map dims (λ (d : DocDim). d.len))))
]

-- the length of a kept dimension is that of the file, and behind them stands that of the targets
kept_len : (file : NcFile) (leading : List ℕ) (n_b id : ℕ) → place_among (each_once leading) id < length (each_once leading)
    → slice_index (lens_of (field_dims file leading n_b)) (place_among (each_once leading) id) ≡ slice_index (lens_of file.dims) id
kept_len file leading n_b id within =
    let kept = each_once leading in
    let copied = map (dim_at file.dims) kept in
    let last = dimension_of (codes "n_b") n_b in
    let place = place_among kept id in
    let here : place < length copied = omega (arith, within, length-map kept (dim_at file.dims)) in
    get_or-map (λ (d : DocDim). d.len) (field_dims file leading n_b) place (dimension_of [] 0) 0 (omega (arith, here, length-append copied (last ∷ [])))
    ∙ ap (λ (d : DocDim). d.len) (get_or_append_left copied (last ∷ []) (dimension_of [] 0) place here ∙ get_or-map (dim_at file.dims) kept place 0 (dimension_of [] 0) within)
    ∙ ap (λ (n : ℕ). (dim_at file.dims n).len) (at_place kept id within)
    ∙ len_copied file.dims id

last_len : (file : NcFile) (leading : List ℕ) (n_b : ℕ) → slice_index (lens_of (field_dims file leading n_b)) (length (each_once leading)) ≡ n_b
last_len file leading n_b =
    let kept = each_once leading in
    let copied = map (dim_at file.dims) kept in
    let last = dimension_of (codes "n_b") n_b in
    get_or-map (λ (d : DocDim). d.len) (field_dims file leading n_b) (length kept) (dimension_of [] 0) 0 (omega (arith, length-append copied (last ∷ []), length-map kept (dim_at file.dims)))
    ∙ ap (λ (d : DocDim). d.len) (get_or_at copied last [] (dimension_of [] 0) (length kept) (length-map kept (dim_at file.dims)))

-- What stands over the dimensions of a field.

-- the leading dimensions of a field, and the targets
pub record IsLed (file : NcFile) (leading : List ℕ) (slices n_b : ℕ) : Type 0 where
  pub within : All (λ id. id < length (lens_of file.dims)) leading
  pub record_first : All (λ id. slice_index (lens_of file.dims) id ≢ 0) (drop 1 leading)
  pub product : slices_of file leading ≡ slices
  pub few_slices : slices ≤ 2147483647
  pub few : length leading + 1 < 2 ^ 31
  pub dim_names : All (λ d. length d.name < 2 ^ 31) file.dims
  pub dim_lens : All (λ d. d.len ≤ 4294967295) file.dims
  pub least_target : 1 ≤ n_b
  pub most_targets : n_b ≤ 1048576

not_zero : (n : ℕ) → n ≢ 0 → (n == 0) ≡ false
not_zero n h = grind (arith, nat_tests)

some_target : (n : ℕ) → 1 ≤ n → n ≢ 0
some_target n h e = absurd (omega (arith, h, e))

-- what all numbers have, those kept once have
all_once : (P : ℕ → Type 0) (xs : List ℕ) → All P xs → All P (each_once xs)
unfolding each_once
all_once P [] all = all
all_once P (x ∷ xs) all = All-cons P x (without x (each_once xs)) (All-head P x xs all) (All-filter (λ other. not (other == x)) P (each_once xs) (all_once P xs (All-tail P x xs all)))

dims_count : (file : NcFile) (leading : List ℕ) (n_b : ℕ) → length (field_dims file leading n_b) ≡ length (each_once leading) + 1
dims_count file leading n_b =
    omega (arith, length-append (map (dim_at file.dims) (each_once leading)) (dimension_of (codes "n_b") n_b ∷ []), length-map (each_once leading) (dim_at file.dims))

ids_count : (leading : List ℕ) → length (field_ids leading) ≡ length leading + 1
ids_count leading = omega (arith, length-append (map (place_among (each_once leading)) leading) (length (each_once leading) ∷ []), length-map leading (place_among (each_once leading)))

-- each number names a dimension
ids_within : (file : NcFile) (leading : List ℕ) (n_b : ℕ) → All (λ id. id < length (field_dims file leading n_b)) (field_ids leading)
ids_within file leading n_b =
    let kept = each_once leading in
    let P : ℕ → Type 0 = λ id. id < length (field_dims file leading n_b) in
    All-push P (map (place_among kept) leading) (length kept)
    (All-map P (place_among kept) leading (All-weaker (λ id. place_among kept id < length kept) (λ id. P (place_among kept id)) (λ id h. omega (arith, h, dims_count file leading n_b)) leading (all_kept leading)))
    (omega (arith, dims_count file leading n_b))

-- the length of each kept dimension, by the place of its number
places_apart : (file : NcFile) (leading ids : List ℕ) (n_b : ℕ) → All (λ id. place_among (each_once leading) id < length (each_once leading)) ids → All (λ id. slice_index (lens_of file.dims) id ≢ 0) ids
    → All (λ id. slice_index (lens_of (field_dims file leading n_b)) id ≢ 0) (map (place_among (each_once leading)) ids)
places_apart file leading ids n_b there apart =
    All-map (λ (id : ℕ). slice_index (lens_of (field_dims file leading n_b)) id ≢ 0) (place_among (each_once leading)) ids (λ k d lt e. apart k d lt (sym (kept_len file leading n_b _ (there k d lt)) ∙ e))

first_only : (file : NcFile) (leading : List ℕ) (slices n_b : ℕ) → IsLed file leading slices n_b → All (λ id. slice_index (lens_of (field_dims file leading n_b)) id ≢ 0) (drop 1 (field_ids leading))
first_only file [] slices n_b h = All-nil (λ (id : ℕ). slice_index (lens_of (field_dims file [] n_b)) id ≢ 0)
first_only file (id ∷ ids) slices n_b h =
    let leading = id ∷ ids in
    let kept = each_once leading in
    let P : ℕ → Type 0 = λ i. slice_index (lens_of (field_dims file leading n_b)) i ≢ 0 in
    All-push P (map (place_among kept) ids) (length kept) (places_apart file leading ids n_b (All-tail (λ (i : ℕ). place_among kept i < length kept) id ids (all_kept leading)) h.record_first)
    (λ e. some_target n_b h.least_target (sym (last_len file leading n_b) ∙ e))

-- At most one dimension is the record dimension.

is_none : DocDim → Bool
is_none d = d.len == 0

none_counted : (ds : List DocDim) → All (λ d. d.len ≢ 0) ds → count_by (λ d. d.len == 0) ds ≡ 0
none_counted [] all = refl
none_counted (d ∷ ds) all =
    omega (
      arith,
      sum_by-cons (λ (x : DocDim). if x.len == 0 then 1 else 0) d ds,
      ap {B = ℕ} (λ (b : Bool). if b then 1 else 0) (not_zero d.len (All-head (λ (x : DocDim). x.len ≢ 0) d ds all)),
      none_counted ds (All-tail (λ (x : DocDim). x.len ≢ 0) d ds all),
    )

one_counted : (d : DocDim) (ds : List DocDim) → All (λ x. x.len ≢ 0) ds → count_by (λ x. x.len == 0) (d ∷ ds) ≤ 1
one_counted d ds all =
    let one : (b : Bool) → (if b then 1 else 0) ≤ 1 = λ b. elim b as (λ c. (if c then 1 else 0) ≤ 1) [ true ↦ omega arith | false ↦ omega arith ] in
    omega (arith, sum_by-cons (λ (x : DocDim). if x.len == 0 then 1 else 0) d ds, one (d.len == 0), none_counted ds all)

copied_apart : (file : NcFile) (ids : List ℕ) → All (λ id. slice_index (lens_of file.dims) id ≢ 0) ids → All (λ d. d.len ≢ 0) (map (dim_at file.dims) ids)
copied_apart file ids apart = All-map (λ (d : DocDim). d.len ≢ 0) (dim_at file.dims) ids (λ k d lt e. apart k d lt (sym (len_copied file.dims _) ∙ e))

one_record_dim : (file : NcFile) (leading : List ℕ) (slices n_b : ℕ) → IsLed file leading slices n_b → count_by (λ d. d.len == 0) (field_dims file leading n_b) ≤ 1
unfolding each_once
one_record_dim file [] slices n_b h = one_counted (dimension_of (codes "n_b") n_b) [] (All-nil (λ (d : DocDim). d.len ≢ 0))
one_record_dim file (id ∷ ids) slices n_b h =
    let others = without id (each_once ids) in
    let apart : All (λ i. slice_index (lens_of file.dims) i ≢ 0) others =
    All-filter (λ other. not (other == id)) (λ (i : ℕ). slice_index (lens_of file.dims) i ≢ 0) (each_once ids) (all_once (λ (i : ℕ). slice_index (lens_of file.dims) i ≢ 0) ids h.record_first) in
    one_counted (dim_at file.dims id) (map (dim_at file.dims) others ++ dimension_of (codes "n_b") n_b ∷ [])
    (All-push (λ (d : DocDim). d.len ≢ 0) (map (dim_at file.dims) others) (dimension_of (codes "n_b") n_b) (copied_apart file others apart) (some_target n_b h.least_target))

-- Records and values.

-- the lengths of the file that is written
abbrev new_lens : NcFile → List ℕ → ℕ → List ℕ
new_lens file leading n_b = whole_lens (field_records file leading) (lens_of (field_dims file leading n_b))

new_at : (file : NcFile) (leading : List ℕ) (n_b place : ℕ) → place < length (field_dims file leading n_b)
    → slice_index (new_lens file leading n_b) place ≡ (if slice_index (lens_of (field_dims file leading n_b)) place == 0 then field_records file leading else slice_index (lens_of (field_dims file leading n_b)) place)
new_at file leading n_b place within = whole_at (field_records file leading) place (lens_of (field_dims file leading n_b)) (omega (arith, within, length-map (field_dims file leading n_b) (λ (d : DocDim). d.len)))

-- the length of a kept dimension, with its records
kept_whole : (file : NcFile) (leading : List ℕ) (n_b id : ℕ) → place_among (each_once leading) id < length (each_once leading) → id < length (lens_of file.dims)
    → ((slice_index (lens_of file.dims) id == 0) ≡ true → field_records file leading ≡ file.records)
    → slice_index (new_lens file leading n_b) (place_among (each_once leading) id) ≡ slice_index (whole_lens file.records (lens_of file.dims)) id
kept_whole file leading n_b id kept within records =
    let n = slice_index (lens_of file.dims) id in
    new_at file leading n_b (place_among (each_once leading) id) (omega (arith, kept, dims_count file leading n_b))
    ∙ ap (λ (k : ℕ). if k == 0 then field_records file leading else k) (kept_len file leading n_b id kept)
    ∙ same (n == 0) refl
    ∙ sym (whole_at file.records id (lens_of file.dims) within)
  where
    same : (b : Bool) → (slice_index (lens_of file.dims) id == 0) ≡ b → (if b then field_records file leading else slice_index (lens_of file.dims) id) ≡ (if b then file.records else slice_index (lens_of file.dims) id)
    same true is = records is
    same false is = refl

product_map : (new old : List ℕ) (place : ℕ → ℕ) (ids : List ℕ) → All (λ id. slice_index new (place id) ≡ slice_index old id) ids → product_of new (map place ids) ≡ product_of old ids
unfolding product_of
product_map new old place [] all = refl
product_map new old place (id ∷ ids) all =
    ap₂ (λ (a b : ℕ). a * b) (All-head (λ (i : ℕ). slice_index new (place i) ≡ slice_index old i) id ids all)
    (product_map new old place ids (All-tail (λ (i : ℕ). slice_index new (place i) ≡ slice_index old i) id ids all))

-- where the first dimension is the record dimension, the records are kept
records_kept : (file : NcFile) (id : ℕ) (ids : List ℕ) → (slice_index (lens_of file.dims) id == 0) ≡ true → field_records file (id ∷ ids) ≡ file.records
unfolding has_records
records_kept file id ids h = ap (λ (b : Bool). if b then file.records else 0) h

all_whole : (file : NcFile) (leading : List ℕ) (slices n_b : ℕ) → IsLed file leading slices n_b → All (λ id. slice_index (new_lens file leading n_b) (place_among (each_once leading) id) ≡ slice_index (whole_lens file.records (lens_of file.dims)) id) leading
all_whole file [] slices n_b h = All-nil (λ (id : ℕ). slice_index (new_lens file [] n_b) (place_among (each_once []) id) ≡ slice_index (whole_lens file.records (lens_of file.dims)) id)
all_whole file (id ∷ ids) slices n_b h =
    let leading = id ∷ ids in
    let K : ℕ → Type 0 = λ i. place_among (each_once leading) i < length (each_once leading) in
    let W : ℕ → Type 0 = λ i. i < length (lens_of file.dims) in
    All-cons (λ (i : ℕ). slice_index (new_lens file leading n_b) (place_among (each_once leading) i) ≡ slice_index (whole_lens file.records (lens_of file.dims)) i) id ids
    (kept_whole file leading n_b id (All-head K id ids (all_kept leading)) (All-head W id ids h.within) (records_kept file id ids))
    (λ k d lt. kept_whole file leading n_b (get_or ids k d) (All-tail K id ids (all_kept leading) k d lt) (All-tail W id ids h.within k d lt) (λ none. absurd (h.record_first k d lt (eqb-true _ 0 none))))

-- each variable has a value for each target of each slice
values_count : (file : NcFile) (leading : List ℕ) (slices n_b : ℕ) → IsLed file leading slices n_b → product_of (new_lens file leading n_b) (field_ids leading) ≡ slices * n_b
unfolding product_of
values_count file leading slices n_b h =
    let new = new_lens file leading n_b in
    let kept = each_once leading in
    let last : slice_index new (length kept) ≡ n_b =
    new_at file leading n_b (length kept) (omega (arith, dims_count file leading n_b))
    ∙ ap (λ (k : ℕ). if k == 0 then field_records file leading else k) (last_len file leading n_b)
    ∙ ap (λ (b : Bool). if b then field_records file leading else n_b) (not_zero n_b (some_target n_b h.least_target)) in
    product_append new (map (place_among kept) leading) (length kept ∷ [])
    ∙ ap₂ (λ (a b : ℕ). a * (b * 1)) (product_map new (whole_lens file.records (lens_of file.dims)) (place_among kept) leading (all_whole file leading slices n_b h) ∙ h.product) last
    ∙ ap (λ (n : ℕ). slices * n) (let e : n_b * 1 ≡ n_b = omega arith in e)

-- the number of records is no greater than that of slices
some_product : (records : ℕ) (lens ids : List ℕ) → All (λ id. slice_index lens id ≢ 0) ids → 1 ≤ product_of (whole_lens records lens) ids
unfolding product_of
some_product records lens [] apart = omega arith
some_product records lens (id ∷ ids) apart =
    let first : slice_index lens id ≢ 0 = All-head (λ (i : ℕ). slice_index lens i ≢ 0) id ids apart in
    let rest = some_product records lens ids (All-tail (λ (i : ℕ). slice_index lens i ≢ 0) id ids apart) in
    let whole : slice_index (whole_lens records lens) id ≡ slice_index lens id = whole_apart records id lens first in
    some_times (slice_index (whole_lens records lens) id) (product_of (whole_lens records lens) ids) (omega (arith, whole, first)) rest

few_records : (file : NcFile) (leading : List ℕ) (slices n_b : ℕ) → IsLed file leading slices n_b → field_records file leading ≤ 2147483647
unfolding has_records product_of
few_records file [] slices n_b h = omega arith
few_records file (id ∷ ids) slices n_b h = by_case (slice_index (lens_of file.dims) id == 0) refl
  where
    by_case : (b : Bool) → (slice_index (lens_of file.dims) id == 0) ≡ b → (if b then file.records else 0) ≤ 2147483647
    by_case false is = omega arith
    by_case true is =
        let rest = product_of (whole_lens file.records (lens_of file.dims)) ids in
        let some : 1 ≤ rest = some_product file.records (lens_of file.dims) ids h.record_first in
        let first : slice_index (whole_lens file.records (lens_of file.dims)) id ≡ file.records =
        whole_at file.records id (lens_of file.dims) (All-head (λ (i : ℕ). i < length (lens_of file.dims)) id ids h.within)
        ∙ ap (λ (b : Bool). if b then file.records else slice_index (lens_of file.dims) id) is in
        let all : file.records * rest ≡ slices = ap (λ (n : ℕ). n * rest) (sym first) ∙ h.product in
        let least : file.records * 1 ≤ file.records * rest = mul-le-mul_left file.records some in
        omega (arith, all, least, h.few_slices)

-- without a record dimension there are no records
without_records : (file : NcFile) (leading : List ℕ) (n_b : ℕ) → All (λ d. d.len ≢ 0) (field_dims file leading n_b) → field_records file leading ≡ 0
unfolding has_records each_once
without_records file [] n_b apart = refl
without_records file (id ∷ ids) n_b apart =
    let first : (dim_at file.dims id).len ≢ 0 = All-head (λ (d : DocDim). d.len ≢ 0) (dim_at file.dims id) (map (dim_at file.dims) (without id (each_once ids)) ++ dimension_of (codes "n_b") n_b ∷ []) apart in
    let none : (slice_index (lens_of file.dims) id == 0) ≡ false = not_zero (slice_index (lens_of file.dims) id) (λ e. first (len_copied file.dims id ∙ e)) in
    ap (λ (b : Bool). if b then file.records else 0) none

-- The whole document.

-- a variable over the dimensions of a field
pub record IsVarOver (leading : List ℕ) (count : ℕ) (v : DocVar) : Type 0 where
  pub dims : v.dims ≡ field_ids leading
  pub name : length v.name < 2 ^ 31
  pub values : length (numbers_of v.values) ≡ count

name_copied : (dims : List DocDim) (id : ℕ) → All (λ d. length d.name < 2 ^ 31) dims → length (dim_at dims id).name < 2 ^ 31
name_copied dims id names = elim (cases_lt id (length dims)) [
  | inl within ↦ names id (dimension_of [] 0) within
  | inr past ↦ omega (arith, ap (λ (d : DocDim). length d.name) (get_or_past dims id (dimension_of [] 0) past))
]

names_short : (file : NcFile) (leading : List ℕ) (n_b : ℕ) → All (λ d. length d.name < 2 ^ 31) file.dims → All (λ d. length d.name < 2 ^ 31) (field_dims file leading n_b)
names_short file leading n_b names =
    All-push (λ (d : DocDim). length d.name < 2 ^ 31) (map (dim_at file.dims) (each_once leading)) (dimension_of (codes "n_b") n_b)
    (All-map (λ (d : DocDim). length d.name < 2 ^ 31) (dim_at file.dims) (each_once leading) (λ k d lt. name_copied file.dims _ names)) (lit< tt)

len_small : (dims : List DocDim) (id : ℕ) → All (λ d. d.len ≤ 4294967295) dims → (dim_at dims id).len ≤ 4294967295
len_small dims id lens = elim (cases_lt id (length dims)) [
  | inl within ↦ lens id (dimension_of [] 0) within
  | inr past ↦ omega (arith, ap (λ (d : DocDim). d.len) (get_or_past dims id (dimension_of [] 0) past))
]

lens_small : (file : NcFile) (leading : List ℕ) (slices n_b : ℕ) → IsLed file leading slices n_b → All (λ d. d.len ≤ 4294967295) (field_dims file leading n_b)
lens_small file leading slices n_b h =
    All-push (λ (d : DocDim). d.len ≤ 4294967295) (map (dim_at file.dims) (each_once leading)) (dimension_of (codes "n_b") n_b)
    (All-map (λ (d : DocDim). d.len ≤ 4294967295) (dim_at file.dims) (each_once leading) (λ k d lt. len_small file.dims _ h.dim_lens)) (omega (arith, h.most_targets))

over_each : (P : List ℕ → Type 0) (leading : List ℕ) (count : ℕ) (vars : List DocVar) → All (IsVarOver leading count) vars → P (field_ids leading) → All (λ v. P v.dims) vars
over_each P leading count vars over h = λ k d lt. subst P (sym (over k d lt).dims) h

pub document_form : (file : NcFile) (field : FieldVar) (slices n_b : ℕ) (atts : List DocAtt) (vars : List DocVar) → IsLed file (leading_ids file field) slices n_b → length atts ≤ 1 → All (λ a. length a.name < 2 ^ 31) atts → length vars ≤ 3 → All (IsVarOver (leading_ids file field) (slices * n_b)) vars → IsWellFormed (document_over file field n_b atts vars)
document_form file field slices n_b atts vars led few_atts att_names few_vars over =
    let leading = leading_ids file field in
    let doc = document_over file field n_b atts vars in
    let count = slices * n_b in
    let within = ids_within file leading n_b in
    let first = first_only file leading slices n_b led in
    let product = values_count file leading slices n_b led in
    let records = few_records file leading slices n_b led in
    let dim_count = dims_count file leading n_b in
    let kept_few = each_once_short leading in
    let lists : HasShortLists doc = record {
      dims = omega (arith, dim_count, kept_few, led.few);
      dim_names = names_short file leading n_b led.dim_names;
      atts = omega (arith, few_atts);
      att_names = att_names;
      vars = omega (arith, few_vars);
      var_names = λ k d lt. (over k d lt).name;
      ids = over_each (λ ids. length ids < 2 ^ 31) leading count vars over (omega (arith, ids_count leading, led.few));
    } in
    let in_lens : All (λ id. id < length (lens_of doc.dims)) (field_ids leading) =
    All-weaker (λ (id : ℕ). id < length doc.dims) (λ (id : ℕ). id < length (lens_of doc.dims)) (λ id h. omega (arith, h, length-map doc.dims (λ (d : DocDim). d.len))) (field_ids leading) within in
    let pieces = product_pieces doc.records (lens_of doc.dims) (field_ids leading) in_lens first in
    let its_values : All (HasItsValues doc) vars = λ k d lt.
    (over k d lt).values ∙ sym product ∙ pieces ∙ ap (λ (ids : List ℕ). piece_total doc.records (has_records (lens_of doc.dims) ids) * piece_count (lens_of doc.dims) ids) (sym (over k d lt).dims) in
    let most : count ≤ 2 ^ 51 = omega (arith, mul-le-mul led.few_slices led.most_targets) in
    record {
      lens = lens_small file leading slices n_b led;
      one_record_dim = one_record_dim file leading slices n_b led;
      ids = over_each (All (λ id. id < length doc.dims)) leading count vars over within;
      record_dim_first = over_each (λ ids. All (λ id. slice_index (lens_of doc.dims) id ≢ 0) (drop 1 ids)) leading count vars over first;
      values = λ k d lt. (over k d lt).values ∙ sym product ∙ ap (product_of (full_lens doc)) (sym (over k d lt).dims);
      records = omega (arith, records);
      no_records = without_records file leading n_b;
      short_lists = lists;
      file = file_bound doc count most (record { lists = lists; vars = few_vars; atts = few_atts; records = omega (arith, records); values = its_values; few = λ k d lt. omega (arith, (over k d lt).values) });
    }
