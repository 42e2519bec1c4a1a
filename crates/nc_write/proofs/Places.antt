-- How many bytes the data takes, and where it ends.
use Rattle.std.proofs.Common.{◌≡◌, ◌≢◌, ◌<◌, ◌≤◌, ◌+◌, ◌*◌, ◌==◌, ℕ, ℤ, zero, suc, List, [], ◌∷◌, All, Bool, true, false, if◌then◌else◌, length, take, drop, get_or, slice_index, refl, sym, ap, ◌∙◌, arith, add-one, length-append, length-drop}
use Rattle.std.proofs.Math.Nat.{mul-suc, suc-mul, mul-le-mul_right, one-mul}
use Rattle.std.proofs.lemmas.Bool.Decides.{nat_tests}
use Rattle.std.proofs.lemmas.List.{get_or-map, length-map, length-take-le}
use Rattle.std.proofs.lemmas.List.Elements.{All-head, All-tail}
use Rattle.std.proofs.lemmas.List.Sums.{sum_by-cons}
use Rattle.std.proofs.lemmas.List.Concat.{length-flat_map}
use Rattle.std.specs.List.{flat_map, sum_by, range_with_len}
use Rattle.nc_write.specs.declared.NcDoc.{NcDoc}
use Rattle.nc_write.specs.declared.DocVar.{DocVar}
use Rattle.nc_write.specs.declared.NcKind.{NcKind}
use Rattle.nc_write.specs.Kinds.{size_of, value}
use Rattle.nc_write.specs.Extents.{lens_of, product_of, has_records, piece_count, piece_len, rounded, share_of}
use Rattle.nc_write.specs.File.{numbers_of, kind_of, is_record, pads_records, fixed_len, record_len, first_len, fixed_total, doc_step, padded_bytes, padded_if, value_bytes, fixed_data, record_numbers, record_data, record_of, data_of, header, header_len, file_of}
use Rattle.nc_write.specs.Form.{full_lens, IsWellFormed, HasItsValues}
use Rattle.nc_write.proofs.PartLengths.{length_value, length_padded, length_header_any}
use Rattle.nc_write.proofs.Records.{flat_range_more}

-- a length by its place, with the number of records for the record dimension
full_at : (doc : NcDoc) (id : ℕ) → id < length doc.dims → slice_index (full_lens doc) id ≡ (if slice_index (lens_of doc.dims) id == 0 then doc.records else slice_index (lens_of doc.dims) id)
full_at doc id lt = get_or-map (λ n. if n == 0 then doc.records else n) (lens_of doc.dims) id 0 0 (omega (arith, length-map doc.dims (λ d. d.len)))

if_false : {A : Type 0} (b : Bool) (x y : A) → b ≡ false → (if b then x else y) ≡ y
if_false b x y h = ap (λ c. if c then x else y) h

-- without the record dimension the product is the same
full_product : (doc : NcDoc) (ids : List ℕ) → All (λ id. id < length doc.dims) ids → All (λ id. slice_index (lens_of doc.dims) id ≢ 0) ids → product_of (full_lens doc) ids ≡ product_of (lens_of doc.dims) ids
unfolding product_of
full_product doc [] within apart = refl
full_product doc (id ∷ ids) within apart =
    let n = slice_index (lens_of doc.dims) id in
    let ne : n ≢ 0 = All-head (λ (i : ℕ). slice_index (lens_of doc.dims) i ≢ 0) id ids apart in
    let e : (n == 0) ≡ false = grind (arith, nat_tests) in
    let here : slice_index (full_lens doc) id ≡ n = full_at doc id (All-head (λ (i : ℕ). i < length doc.dims) id ids within) ∙ if_false (n == 0) doc.records n e in
    let rest = full_product doc ids (All-tail (λ (i : ℕ). i < length doc.dims) id ids within) (All-tail (λ (i : ℕ). slice_index (lens_of doc.dims) i ≢ 0) id ids apart) in
    rw (here, rest) refl

pieces_product : (doc : NcDoc) (ids : List ℕ) → All (λ id. id < length doc.dims) ids → All (λ id. slice_index (lens_of doc.dims) id ≢ 0) (drop 1 ids)
    → product_of (full_lens doc) ids ≡ (if has_records (lens_of doc.dims) ids then doc.records else 1) * piece_count (lens_of doc.dims) ids
unfolding product_of has_records piece_count
pieces_product doc [] within apart = refl
pieces_product doc (id ∷ ids) within apart =
    let n = slice_index (lens_of doc.dims) id in
    let p = product_of (lens_of doc.dims) ids in
    let here : slice_index (full_lens doc) id ≡ (if n == 0 then doc.records else n) = full_at doc id (All-head (λ (i : ℕ). i < length doc.dims) id ids within) in
    let rest : product_of (full_lens doc) ids ≡ p = full_product doc ids (All-tail (λ (i : ℕ). i < length doc.dims) id ids within) apart in
    let both : (b : Bool) → (if b then doc.records else n) * p ≡ (if b then doc.records else 1) * (if b then p else n * p) = λ b. split doc.records n p b in
    rw (here, rest) (both (n == 0))
  where
    split : (r n p : ℕ) (b : Bool) → (if b then r else n) * p ≡ (if b then r else 1) * (if b then p else n * p)
    split r n p true = refl
    split r n p false = sym (one-mul (n * p))

-- each variable of a well-formed document has the values of its pieces
pub has_its_values : (doc : NcDoc) → IsWellFormed doc → All (HasItsValues doc) doc.vars
has_its_values doc h k d lt =
    h.values k d lt ∙ pieces_product doc (get_or doc.vars k d).dims (h.ids k d lt) (h.record_dim_first k d lt)

pub length_value_bytes : (kind : NcKind) (zs : List ℤ) → length (value_bytes kind zs) ≡ size_of kind * length zs
length_value_bytes kind [] = omega arith
length_value_bytes kind (z ∷ zs) =
    length-append (value kind z) (value_bytes kind zs)
    ∙ omega (arith, length_value kind z, length_value_bytes kind zs, mul-suc (size_of kind) (length zs))

-- what a variable has before the records, by the number of its values
pub length_fixed_data : (doc : NcDoc) (v : DocVar) → length (fixed_data doc v) ≡ (if is_record doc v then 0 else rounded (size_of (kind_of v.values) * length (numbers_of v.values)))
unfolding fixed_data
length_fixed_data doc v =
    let bytes = value_bytes (kind_of v.values) (numbers_of v.values) in
    elim (is_record doc v) as (λ b. length (if b then [] else padded_bytes 0x81 bytes) ≡ (if b then 0 else rounded (size_of (kind_of v.values) * length (numbers_of v.values)))) [
      | true ↦ refl
      | false ↦ length_padded 0x81 bytes ∙ ap rounded (length_value_bytes (kind_of v.values) (numbers_of v.values))
    ]

fixed_data_fits : (doc : NcDoc) (v : DocVar) → HasItsValues doc v → length (fixed_data doc v) ≡ fixed_len doc v
unfolding piece_len
fixed_data_fits doc v h = length_fixed_data doc v ∙ split (is_record doc v) h
  where
    split : (b : Bool) → length (numbers_of v.values) ≡ (if b then doc.records else 1) * piece_count (lens_of doc.dims) v.dims
        → (if b then 0 else rounded (size_of (kind_of v.values) * length (numbers_of v.values))) ≡ (if b then 0 else rounded (size_of (kind_of v.values) * piece_count (lens_of doc.dims) v.dims))
    split true e = refl
    split false e = ap (λ n. rounded (size_of (kind_of v.values) * n)) (e ∙ one-mul (piece_count (lens_of doc.dims) v.dims))

-- a record lies within the values
pub record_within : (r records count : ℕ) → r < records → r * count + count ≤ records * count
record_within r records count lt = omega (arith, suc-mul r count, mul-le-mul_right count (record_next r records lt))
  where
    record_next : (r records : ℕ) → r < records → suc r ≤ records
    record_next r records lt = omega arith

length_part : {A : Type 0} (r records count : ℕ) (xs : List A) → r < records → length xs ≡ records * count → length (take count (drop (r * count) xs)) ≡ count
length_part r records count xs lt e =
    let within = record_within r records count lt in
    length-take-le count (drop (r * count) xs) (omega (arith, length-drop (r * count) xs, within, e))

share_fits : (doc : NcDoc) (r : ℕ) (v : DocVar) (b several : Bool) → r < doc.records → length (numbers_of v.values) ≡ (if b then doc.records else 1) * piece_count (lens_of doc.dims) v.dims
    → length (if b then padded_if several (value_bytes (kind_of v.values) (record_numbers doc r v)) else []) ≡ share_of several b (size_of (kind_of v.values) * piece_count (lens_of doc.dims) v.dims)
share_fits doc r v false several lt e = refl
share_fits doc r v true several lt e =
    let bytes = value_bytes (kind_of v.values) (record_numbers doc r v) in
    let count = piece_count (lens_of doc.dims) v.dims in
    let whole : length bytes ≡ size_of (kind_of v.values) * count = length_value_bytes (kind_of v.values) (record_numbers doc r v) ∙ ap (λ n. size_of (kind_of v.values) * n) (length_part r doc.records count (numbers_of v.values) lt e) in
    elim several as (λ s. length (padded_if s bytes) ≡ share_of s true (size_of (kind_of v.values) * count)) [
      | true ↦ length_padded 0x81 bytes ∙ ap rounded whole
      | false ↦ whole
    ]

record_data_fits : (doc : NcDoc) (r : ℕ) → r < doc.records → (v : DocVar) → HasItsValues doc v → length (record_data doc r v) ≡ record_len doc v
unfolding record_data piece_len
record_data_fits doc r lt v h = share_fits doc r v (is_record doc v) (pads_records doc) lt h

flat_sum : {X A : Type 0} (f : X → List A) (g : X → ℕ) (P : X → Type 0) → ((x : X) → P x → length (f x) ≡ g x) → (xs : List X) → All P xs → length (flat_map f xs) ≡ sum_by g xs
flat_sum f g P h [] all = refl
flat_sum f g P h (x ∷ xs) all =
    omega (arith, length-append (f x) (flat_map f xs), h x (All-head P x xs all), flat_sum f g P h xs (All-tail P x xs all), sum_by-cons g x xs)

-- the data before the records, of some variables
pub length_fixed_all : (doc : NcDoc) (vs : List DocVar) → All (HasItsValues doc) vs → length (flat_map (fixed_data doc) vs) ≡ sum_by (fixed_len doc) vs
length_fixed_all doc vs all = flat_sum (fixed_data doc) (fixed_len doc) (HasItsValues doc) (fixed_data_fits doc) vs all

-- what a record has of some variables
pub length_record_all : (doc : NcDoc) (r : ℕ) → r < doc.records → (vs : List DocVar) → All (HasItsValues doc) vs → length (flat_map (record_data doc r) vs) ≡ sum_by (record_len doc) vs
length_record_all doc r lt vs all = flat_sum (record_data doc r) (record_len doc) (HasItsValues doc) (record_data_fits doc r lt) vs all

length_record_of : (doc : NcDoc) → All (HasItsValues doc) doc.vars → (r : ℕ) → r < doc.records → length (record_of doc r) ≡ doc_step doc
unfolding record_of
length_record_of doc all r lt = length_record_all doc r lt doc.vars all

-- the first n records
pub length_records : (doc : NcDoc) → All (HasItsValues doc) doc.vars → (n : ℕ) → n ≤ doc.records → length (flat_map (record_of doc) (range_with_len 0 n)) ≡ n * doc_step doc
length_records doc all zero le = omega arith
length_records doc all (suc n) le =
    ap (λ k. length (flat_map (record_of doc) (range_with_len 0 k))) (sym (add-one n))
    ∙ ap length (flat_range_more (record_of doc) n)
    ∙ omega (
      arith,
      length-append (flat_map (record_of doc) (range_with_len 0 n)) (record_of doc n),
      length_records doc all n (omega arith),
      length_record_of doc all n (omega arith),
      suc-mul n (doc_step doc),
    )

-- the length of the data of a document whose variables have their values
pub length_data_of : (doc : NcDoc) → All (HasItsValues doc) doc.vars → length (data_of doc) ≡ fixed_total doc + doc.records * doc_step doc
unfolding data_of
length_data_of doc all =
    omega (
      arith,
      length-append (flat_map (fixed_data doc) doc.vars) (flat_map (record_of doc) (range_with_len 0 doc.records)),
      length_fixed_all doc doc.vars all,
      length_records doc all doc.records (omega arith),
    )

-- the length of its file
pub length_file_of : (doc : NcDoc) → All (HasItsValues doc) doc.vars → length (file_of doc) ≡ header_len doc + (fixed_total doc + doc.records * doc_step doc)
unfolding file_of
length_file_of doc all = omega (arith, length-append (header doc (header_len doc)) (data_of doc), length_header_any doc (header_len doc), length_data_of doc all)

-- the length of the file of a document without records
pub length_file_of_fixed : (doc : NcDoc) → doc.records ≡ 0 → length (file_of doc) ≡ header_len doc + sum_by (λ v. length (fixed_data doc v)) doc.vars
unfolding file_of data_of
length_file_of_fixed doc none =
    omega (
      arith,
      length-append (header doc (header_len doc)) (data_of doc),
      length_header_any doc (header_len doc),
      length-append (flat_map (fixed_data doc) doc.vars) (flat_map (record_of doc) (range_with_len 0 doc.records)),
      ap (λ n. length (flat_map (record_of doc) (range_with_len 0 n))) none,
      length-flat_map (fixed_data doc) doc.vars,
    )

-- the first record is no longer than all of them
first_total : (n : ℕ) (f : DocVar → ℕ) (vs : List DocVar) → sum_by (λ v. if n == 0 then 0 else f v) vs ≤ n * sum_by f vs
first_total zero f [] = omega arith
first_total zero f (v ∷ vs) = omega (arith, sum_by-cons (λ (w : DocVar). if zero == 0 then 0 else f w) v vs, first_total zero f vs)
first_total (suc n) f vs =
    let not_zero : (suc n == 0) ≡ false = grind (arith, nat_tests) in
    let same : sum_by (λ v. if suc n == 0 then 0 else f v) vs ≡ sum_by f vs = ap (λ b. sum_by (λ v. if b then 0 else f v) vs) not_zero in
    omega (arith, same, suc-mul n (sum_by f vs))

pub first_within : (doc : NcDoc) → sum_by (first_len doc) doc.vars ≤ doc.records * doc_step doc
first_within doc = first_total doc.records (record_len doc) doc.vars
