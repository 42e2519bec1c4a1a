-- The header of a document is spelled as the grammar says.
use Rattle.std.proofs.Common.{◌≡◌, ◌≢◌, ℕ, zero, suc, ◌+◌, ◌^◌, ◌<◌, ◌≤◌, Bool, true, false, ltb, leb, not, if◌then◌else◌, ◌==◌, ◌&&◌, ◌||◌, ◌⊎◌, inl, inr, Ok, List, [], ◌∷◌, ◌++◌, length, map, take, drop, replicate, slice_index, All, refl, sym, ap, subst, ◌∙◌, append_assoc, arith}
use Rattle.std.proofs.lemmas.Bool.{le-leb, lt-ltb}
use Rattle.std.proofs.lemmas.Bool.Decides.{nat_tests}
use Rattle.std.proofs.lemmas.List.{append-nil, map-id, take_at, length-append, length-replicate}
use Rattle.std.proofs.lemmas.List.Concat.{flat_map-cons}
use Rattle.std.proofs.lemmas.List.Elements.{All-head, All-tail, All-from_recursion}
use Rattle.std.proofs.lemmas.List.Sums.{sum_by-cons, sum_by_push}
use Rattle.std.specs.List.{flat_map, list_any, count_by, sum_by, fold, AllByRecursion}
use Rattle.byteorder.specs.Endian.{big_number, big_bytes}
use Rattle.byteorder.specs.Numbers.{big_number-reads_back, length-bytes_high_first}
use Rattle.nc_write.specs.declared.NcKind.{NcKind}
use Rattle.nc_write.specs.declared.NcKind.TheVariants as kinds
use Rattle.nc_write.specs.declared.NcDoc.{NcDoc}
use Rattle.nc_write.specs.declared.DocDim.{DocDim}
use Rattle.nc_write.specs.declared.DocAtt.{DocAtt}
use Rattle.nc_write.specs.declared.DocVar.{DocVar}
use Rattle.nc_write.specs.declared.Values.{Values}
use Rattle.nc_write.specs.declared.Values.TheVariants.{Byte, Int, Long}
use Rattle.nc_write.specs.Kinds.{type_number, kind_numbered, size_of, value}
use Rattle.nc_write.specs.Widths.{width, begin_width, number_bytes as spelled_number, offset, code}
use Rattle.nc_write.specs.Extents.{pad_len, rounded, lens_of}
use Rattle.nc_write.specs.File.{kind_of, is_record, has_longs, are_long, version_of, padded_bytes as with_padding, name_bytes as spelled_name, tagged, dimension, attribute, vsize, vsize_limit, shape, variable, variables, begin_of, fixed_len, first_len, fixed_total, doc_piece_len, header, header_len, file_of, data_of}
use Rattle.nc_write.specs.Form.{IsWellFormed}
use Rattle.nc_write.proofs.PartLengths.{length_number, length_value, length_padded, length_header_any}
use Rattle.nc_write.proofs.Places.{has_its_values, length_file_of, first_within}
use Rattle.nc_write.specs.declared.DocDim.{DocDim as NcDim}
use Rattle.nc_format.specs.declared.NcAtt.{NcAtt}
use Rattle.nc_format.specs.declared.NcVar.{NcVar}
use Rattle.nc_format.specs.declared.fault.NcFault.TheVariants.{BadField}
use Rattle.nc_format.specs.Parts.{◌>>=◌, Part, gives, field, such_that, items, number, padded}
use Rattle.nc_format.specs.Grammar.{bounded, name, tag, count, listed, is_type, nc_type, all_ff, numrecs, is_record_dim, dim, next_dim, dim_list, att, att_list, dim_id, next_id, dim_ids, var, var_list, body}
use Rattle.nc_format.specs.Header.{is_version, IsSpelled, header_read}
use Rattle.nc_format.specs.Written.{att_of, var_of, vars_of, fields_of}
use Rattle.nc_format.proofs.Whole.{header_whole}

either : (b : Bool) → (b ≡ true) ⊎ (b ≡ false)
either true = inl refl
either false = inr refl

either_false : (a b : Bool) → (a || b) ≡ false → (a ≡ false) × (b ≡ false)
either_false true b e = absurd cc
either_false false b e = (refl, e)

-- Parts behind one another.

then_put : {A B : Type 0} (P : Part A) (Q : A → Part B) (s t : List ℕ) (x : A) (y : B) → P.Spells s x → (Q x).Spells t y → (P >>= Q).Spells (s ++ t) y
then_put P Q s t x y p q = record { front = s; back = t; first = x; split = refl; is_first = p; is_rest = q }

then_last : {A B : Type 0} (P : Part A) (Q : A → Part B) (s : List ℕ) (x : A) (y : B) → P.Spells s x → (Q x).Spells [] y → (P >>= Q).Spells s y
then_last P Q s x y p q = record { front = s; back = []; first = x; split = sym (append-nil s); is_first = p; is_rest = q }

-- Numbers.

field_put : (n : ℕ) (s : List ℕ) → length s ≡ n → (field n).Spells s s
unfolding field
field_put n s h = (h, refl)

any_number : (n : ℕ) (s : List ℕ) → length s ≡ n → (number n).Spells s (big_number n s)
unfolding number
any_number n s h = then_last (field n) (λ f. gives (big_number n f)) s s (big_number n s) (field_put n s h) (refl, refl)

number_put : (n x : ℕ) → x < 256 ^ n → (number n).Spells (big_bytes n x) x
number_put n x lt =
    let v : big_number n (big_bytes n x) ≡ x = ap (big_number n) (sym (append-nil (big_bytes n x))) ∙ big_number-reads_back n x [] lt in
    subst (λ (k : ℕ). (number n).Spells (big_bytes n x) k) v (any_number n (big_bytes n x) (length-bytes_high_first n x))

code_put : (n : ℕ) → n < 2 ^ 32 → (number 4).Spells (code n) n
unfolding code
code_put n lt = number_put 4 n lt

within_width : (version n : ℕ) → n < 2 ^ 32 → n < 256 ^ width version
unfolding width
within_width version n lt = elim (version == 5) as (λ b. n < 256 ^ (if b then 8 else 4)) [ true ↦ omega arith | false ↦ omega arith ]

wide_put : (version n : ℕ) → n < 2 ^ 32 → (number (width version)).Spells (spelled_number version n) n
unfolding spelled_number
wide_put version n lt = number_put (width version) n (within_width version n lt)

bounded_put : (version n : ℕ) → n < 2 ^ 32 → (bounded version).Spells (spelled_number version n) n
unfolding bounded
bounded_put version n lt = (wide_put version n lt, le-leb n 4294967295 (omega arith))

-- a begin has eight bytes in the versions that are written
eight : (doc : NcDoc) → begin_width (version_of doc) ≡ 8
unfolding begin_width version_of
eight doc = elim (list_any has_longs doc.vars) as (λ b. let w : ℕ = if (if b then 5 else 2) == 1 then 4 else 8 in w ≡ 8) [ true ↦ refl | false ↦ refl ]

known_version : (doc : NcDoc) → is_version (version_of doc) ≡ true
unfolding version_of
known_version doc = elim (list_any has_longs doc.vars) as (λ b. is_version (if b then 5 else 2) ≡ true) [ true ↦ refl | false ↦ refl ]

offset_put : (doc : NcDoc) (n : ℕ) → n < 2 ^ 63 → (number (begin_width (version_of doc))).Spells (offset (version_of doc) n) n
unfolding offset
offset_put doc n lt = number_put (begin_width (version_of doc)) n (let e = eight doc in subst (λ (w : ℕ). n < 256 ^ w) (sym e) (omega arith))

vsize_put : (version n : ℕ) → (number (width version)).Spells (vsize version n) (big_number (width version) (vsize version n))
unfolding vsize
vsize_put version n =
    any_number (width version) (vsize version n)
    (elim (ltb (vsize_limit version) n) as (λ b. length (if b then replicate (width version) 0xff else spelled_number version n) ≡ width version) [
      | true ↦ length-replicate {A = ℕ} (width version) 0xff
      | false ↦ length_number version n
    ])

numrecs_put : (version n : ℕ) → n < 4294967295 → (numrecs version).Spells (spelled_number version n) n
unfolding numrecs
numrecs_put version n lt =
    let other : not (n == all_ff version) ≡ true = elim (version == 5) as (λ b. not (n == (if b then 18446744073709551615 else 4294967295)) ≡ true) [ true ↦ grind (arith, nat_tests) | false ↦ grind (arith, nat_tests) ] in
    ((wide_put version n (omega arith), other), le-leb n 4294967295 (omega arith))

-- Names, and values with padding.

padded_put : (fill n : ℕ) (text : List ℕ) → length text ≡ n → (padded n).Spells (with_padding fill text) text
unfolding padded
padded_put fill n text e =
    let pad = replicate (pad_len (length text)) fill in
    then_last (field (rounded n)) (λ f. gives (take n f)) (text ++ pad) (text ++ pad) text
    (field_put (rounded n) (text ++ pad) (length_padded fill text ∙ ap rounded e))
    (refl, take_at text pad n e)

-- values that fill up to a multiple of 4
filled_put : (n : ℕ) (text : List ℕ) → length text ≡ n → rounded n ≡ n → (padded n).Spells text text
unfolding padded
filled_put n text e whole =
    then_last (field (rounded n)) (λ f. gives (take n f)) text text text
    (field_put (rounded n) text (e ∙ sym whole))
    (refl, ap (take n) (sym (append-nil text)) ∙ take_at text [] n e)

name_put : (version : ℕ) (text : List ℕ) → length text < 2 ^ 31 → (name version).Spells (spelled_name version text) text
unfolding name spelled_name
name_put version text lt =
    then_put (bounded version) padded (spelled_number version (length text)) (with_padding 0 text) (length text) text
    (bounded_put version (length text) (omega arith)) (padded_put 0 (length text) text refl)

-- Lists.

-- items, each spelled with those before it in view
pub Puts : {D A : Type 0} → (List A → Part A) → (D → List ℕ) → (D → A) → List A → List D → Type 0
Puts item f g front [] = Unit {0}
Puts item f g front (d ∷ ds) = (item front).Spells (f d) (g d) × Puts item f g (front ++ g d ∷ []) ds

items_put : {D A : Type 0} (item : List A → Part A) (f : D → List ℕ) (g : D → A) (front : List A) (ds : List D) → Puts item f g front ds → (items item (length ds) front).Spells (flat_map f ds) (front ++ map g ds)
unfolding Puts items
items_put item f g front [] h = (refl, sym (append-nil front))
items_put {A = A} item f g front (d ∷ ds) h =
    let rest = items_put item f g (front ++ g d ∷ []) ds h.1 in
    let same : (front ++ g d ∷ []) ++ map g ds ≡ front ++ (g d ∷ map g ds) = append_assoc front (g d ∷ []) (map g ds) in
    record { front = f d; back = flat_map f ds; first = g d; split = flat_map-cons f d ds; is_first = h.0; is_rest = subst (λ (r : List A). (items item (length ds) (front ++ g d ∷ [])).Spells (flat_map f ds) r) same rest }

own_tag : (own : ℕ) → ((own == own) || (own == 0)) ≡ true
own_tag own = grind (arith, nat_tests)

no_tag : (own : ℕ) → ((0 == own) || (0 == 0)) ≡ true
no_tag own = grind (arith, nat_tests)

own_count : (own n : ℕ) → ((own == own) || (n == 0)) ≡ true
own_count own n = grind (arith, nat_tests)

listed_put : {A : Type 0} (version own n : ℕ) (item : List A → Part A) (text : List ℕ) (xs : List A) → own < 2 ^ 32 → n < 2 ^ 31 → (n ≡ 0 → text ≡ []) → (items item n []).Spells text xs → (listed version own item).Spells (tagged version own n text) xs
unfolding listed tag count tagged
listed_put version own zero item text xs small few none h =
    let q = subst (λ (t : List ℕ). (items item 0 []).Spells t xs) (none refl) h in
    then_put (tag own) _ (code 0) (spelled_number version 0) 0 xs (code_put 0 (omega arith), no_tag own)
    (then_last (count version own 0) _ (spelled_number version 0) 0 xs (bounded_put version 0 (omega arith), no_tag own) q)
listed_put version own (suc n) item text xs small few none h =
    subst (λ (t : List ℕ). (listed version own item).Spells t xs) (sym (append_assoc (code own) (spelled_number version (suc n)) text))
    (then_put (tag own) _ (code own) (spelled_number version (suc n) ++ text) own xs (code_put own small, own_tag own)
    (then_put (count version own own) _ (spelled_number version (suc n)) text (suc n) xs (bounded_put version (suc n) (omega arith), own_count own (suc n)) h))

none_of : {X : Type 0} (xs : List X) → length xs ≡ 0 → xs ≡ []
none_of [] h = refl
none_of (x ∷ xs) h = absurd (omega arith)

-- Types.

small_type : (k : NcKind) → type_number k < 2 ^ 32
small_type kinds.Byte = omega arith
small_type kinds.Char = omega arith
small_type kinds.Short = omega arith
small_type kinds.Int = omega arith
small_type kinds.Float = omega arith
small_type kinds.Double = omega arith
small_type kinds.UByte = omega arith
small_type kinds.UShort = omega arith
small_type kinds.UInt = omega arith
small_type kinds.Int64 = omega arith
small_type kinds.UInt64 = omega arith

type_named : (k : NcKind) → kind_numbered (type_number k) ≡ k
unfolding kind_numbered
type_named kinds.Byte = refl
type_named kinds.Char = refl
type_named kinds.Short = refl
type_named kinds.Int = refl
type_named kinds.Float = refl
type_named kinds.Double = refl
type_named kinds.UByte = refl
type_named kinds.UShort = refl
type_named kinds.UInt = refl
type_named kinds.Int64 = refl
type_named kinds.UInt64 = refl

type_put : (version : ℕ) (k : NcKind) → is_type version (type_number k) ≡ true → (nc_type version).Spells (code (type_number k)) k
unfolding nc_type
type_put version k known =
    then_last (such_that (number 4) (is_type version) BadField) (λ t. gives (kind_numbered t)) (code (type_number k)) (type_number k) k
    (code_put (type_number k) (small_type k), known) (refl, type_named k)

int_known : (version : ℕ) → is_type version 4 ≡ true
int_known version = elim (version == 5) as (λ b. leb 4 (if b then 11 else 6) ≡ true) [ true ↦ refl | false ↦ refl ]

byte_known : (version : ℕ) → is_type version 1 ≡ true
byte_known version = elim (version == 5) as (λ b. leb 1 (if b then 11 else 6) ≡ true) [ true ↦ refl | false ↦ refl ]

values_known : (version : ℕ) (vs : Values) → (version ≡ 5) ⊎ (are_long vs ≡ false) → is_type version (type_number (kind_of vs)) ≡ true
values_known version (Byte zs) h = byte_known version
values_known version (Int zs) h = int_known version
values_known version (Long zs) h = elim h [ inl e ↦ rw e refl | inr e ↦ absurd (let z : true ≡ false = e in cc) ]

-- The parts of a document.

value_filled : rounded (size_of kinds.Int) ≡ size_of kinds.Int
value_filled = refl

attribute_put : (version : ℕ) (a : DocAtt) → length a.name < 2 ^ 31 → (att version).Spells (attribute version a) (att_of a)
unfolding att attribute
attribute_put version a n =
    let text = spelled_name version a.name in
    let kind = code (type_number kinds.Int) in
    let one = spelled_number version 1 in
    let bytes = value kinds.Int a.value in
    let regrouped : text ++ kind ++ one ++ bytes ≡ text ++ (kind ++ (one ++ bytes)) = append_assoc (text ++ kind) one bytes ∙ append_assoc text kind (one ++ bytes) in
    subst (λ (s : List ℕ). (att version).Spells s (att_of a)) (sym regrouped)
    (then_put (name version) _ text _ a.name (att_of a) (name_put version a.name n)
    (then_put (nc_type version) _ kind _ kinds.Int (att_of a) (type_put version kinds.Int (int_known version))
    (then_put (bounded version) _ one bytes 1 (att_of a) (bounded_put version 1 (omega arith))
    (then_last (padded 4) _ bytes bytes (att_of a) (filled_put 4 bytes (length_value kinds.Int a.value) refl) (refl, refl)))))

atts_fit : (version : ℕ) (front : List NcAtt) (xs : List DocAtt) → All (λ a. length a.name < 2 ^ 31) xs → Puts (λ front. att version) (attribute version) att_of front xs
unfolding Puts
atts_fit version front [] h = tt
atts_fit version front (a ∷ more) h =
    (attribute_put version a (All-head (λ (x : DocAtt). length x.name < 2 ^ 31) a more h), atts_fit version (front ++ att_of a ∷ []) more (All-tail (λ (x : DocAtt). length x.name < 2 ^ 31) a more h))

dimension_put : (version : ℕ) (seen : Bool) (d : DocDim) → length d.name < 2 ^ 31 → d.len ≤ 4294967295 → not (seen && d.len == 0) ≡ true → (dim version seen).Spells (dimension version d) d
unfolding dim dimension
dimension_put version seen d n l r =
    then_put (name version) _ (spelled_name version d.name) (spelled_number version d.len) d.name d (name_put version d.name n)
    (then_last _ _ (spelled_number version d.len) d.len d (bounded_put version d.len (omega arith), r) (refl, refl))

-- one that has been seen is counted
abbrev more : ℕ → NcDim → ℕ
more n x = n + (if is_record_dim x then 1 else 0)

grown : (a : ℕ) (xs : List NcDim) → a ≤ fold more a xs
grown a [] = omega arith
grown a (y ∷ ys) = omega (arith, grown (more a y) ys)

seen_among : (a : ℕ) (xs : List NcDim) → list_any is_record_dim xs ≡ true → a + 1 ≤ fold more a xs
seen_among a [] e = absurd cc
seen_among a (y ∷ ys) e =
    elim (either (is_record_dim y)) [
      | inl t ↦ let z : more a y ≡ a + 1 = rw t refl in omega (arith, z, grown (more a y) ys)
      | inr f ↦
          let rest : list_any is_record_dim ys ≡ true = ap (λ (b : Bool). b || list_any is_record_dim ys) (sym f) ∙ e in
          omega (arith, grown a (y ∷ []), seen_among (more a y) ys rest)
    ]

dim_rule : (front : List NcDim) (is_zero : Bool) → count_by is_record_dim front + (if is_zero then 1 else 0) ≤ 1 → not (list_any is_record_dim front && is_zero) ≡ true
dim_rule front is_zero h = by_cases (list_any is_record_dim front) is_zero (seen_among 0 front) h
  where
    by_cases : (seen is_zero : Bool) → (seen ≡ true → 0 + 1 ≤ count_by is_record_dim front) → count_by is_record_dim front + (if is_zero then 1 else 0) ≤ 1 → not (seen && is_zero) ≡ true
    by_cases false z k h = refl
    by_cases true false k h = refl
    by_cases true true k h = absurd (let one = k refl in omega arith)

abbrev is_zero_dim : DocDim → Bool
is_zero_dim d = d.len == 0

dims_fit : (version : ℕ) (front : List NcDim) (ds : List DocDim) → All (λ d. length d.name < 2 ^ 31) ds → All (λ d. d.len ≤ 4294967295) ds → count_by is_record_dim front + count_by is_zero_dim ds ≤ 1 → Puts (next_dim version) (dimension version) (λ x. x) front ds
unfolding Puts
dims_fit version front [] names lens one = tt
dims_fit version front (d ∷ ds) names lens one =
    let split : count_by is_zero_dim (d ∷ ds) ≡ (if is_zero_dim d then 1 else 0) + count_by is_zero_dim ds = sum_by-cons (λ (x : DocDim). if is_zero_dim x then 1 else 0) d ds in
    let pushed : count_by is_record_dim (front ++ d ∷ []) ≡ count_by is_record_dim front + (if is_zero_dim d then 1 else 0) = sum_by_push (λ (x : NcDim). if is_record_dim x then 1 else 0) front d in (
      dimension_put version (list_any is_record_dim front) d (All-head (λ (x : DocDim). length x.name < 2 ^ 31) d ds names) (All-head (λ (x : DocDim). x.len ≤ 4294967295) d ds lens) (dim_rule front (is_zero_dim d) (omega (arith, one, split))),
      dims_fit version (front ++ d ∷ []) ds (All-tail (λ (x : DocDim). length x.name < 2 ^ 31) d ds names) (All-tail (λ (x : DocDim). x.len ≤ 4294967295) d ds lens) (omega (arith, one, split, pushed)),
    )

id_put : (version : ℕ) (ds : List DocDim) (is_first : Bool) (id : ℕ) → length ds < 2 ^ 31 → id < length ds → (is_first || not (slice_index (lens_of ds) id == 0)) ≡ true → (dim_id version ds is_first).Spells (spelled_number version id) id
unfolding dim_id
id_put version ds is_first id few lt rule =
    ((wide_put version id (omega arith), lt-ltb id (length ds) (omega arith)), rule)

not_zero : (n : ℕ) → n ≢ 0 → not (n == 0) ≡ true
not_zero n h = grind (arith, nat_tests)

ids_behind : (version : ℕ) (ds : List DocDim) (front ids : List ℕ) → length ds < 2 ^ 31 → 0 < length front → All (λ id. id < length ds) ids → All (λ id. slice_index (lens_of ds) id ≢ 0) ids → Puts (next_id version ds) (spelled_number version) (λ i. i) front ids
unfolding Puts
ids_behind version ds front [] few some within apart = tt
ids_behind version ds front (id ∷ ids) few some within apart =
    let ne = All-head (λ (i : ℕ). slice_index (lens_of ds) i ≢ 0) id ids apart in
    let behind : (length front == 0) ≡ false = grind (arith, nat_tests) in
    let rule : ((length front == 0) || not (slice_index (lens_of ds) id == 0)) ≡ true = ap (λ (b : Bool). b || not (slice_index (lens_of ds) id == 0)) behind ∙ not_zero _ ne in (
      id_put version ds (length front == 0) id few (All-head (λ (i : ℕ). i < length ds) id ids within) rule,
      ids_behind version ds (front ++ id ∷ []) ids few (omega (arith, length-append front (id ∷ []))) (All-tail (λ (i : ℕ). i < length ds) id ids within) (All-tail (λ (i : ℕ). slice_index (lens_of ds) i ≢ 0) id ids apart),
    )

ids_fit : (version : ℕ) (ds : List DocDim) (ids : List ℕ) → length ds < 2 ^ 31 → All (λ id. id < length ds) ids → All (λ id. slice_index (lens_of ds) id ≢ 0) (drop 1 ids) → Puts (next_id version ds) (spelled_number version) (λ i. i) [] ids
unfolding Puts
ids_fit version ds [] few within apart = tt
ids_fit version ds (id ∷ ids) few within apart = (
  id_put version ds true id few (All-head (λ (i : ℕ). i < length ds) id ids within) refl,
  ids_behind version ds (id ∷ []) ids few (omega arith) (All-tail (λ (i : ℕ). i < length ds) id ids within) apart,
)

ids_put : (version : ℕ) (ds : List DocDim) (ids : List ℕ) → length ids < 2 ^ 31 → Puts (next_id version ds) (spelled_number version) (λ i. i) [] ids → (dim_ids version ds).Spells (spelled_number version (length ids) ++ flat_map (spelled_number version) ids) ids
unfolding dim_ids
ids_put version ds ids few h =
    let item = next_id version ds in
    let all = subst (λ (r : List ℕ). (items item (length ids) []).Spells (flat_map (spelled_number version) ids) r) (map-id ids) (items_put item (spelled_number version) (λ i. i) [] ids h) in
    then_put (bounded version) _ (spelled_number version (length ids)) (flat_map (spelled_number version) ids) (length ids) ids (bounded_put version (length ids) (omega arith)) all

no_atts : (version : ℕ) → (att_list version).Spells (tagged version 12 0 []) []
unfolding att_list items
no_atts version = listed_put version 12 0 (λ front. att version) [] [] (omega arith) (omega arith) (λ _. refl) (refl, refl)

-- what a variable needs
pub record Fits (doc : NcDoc) (v : DocVar) : Type 0 where
  pub name : length v.name < 2 ^ 31
  pub ids : length v.dims < 2 ^ 31
  pub within : All (λ id. id < length doc.dims) v.dims
  pub apart : All (λ id. slice_index (map (λ d. d.len) doc.dims) id ≢ 0) (drop 1 v.dims)
  pub type : is_type (version_of doc) (type_number (kind_of v.values)) ≡ true

variable_put : (doc : NcDoc) (begin : ℕ) (v : DocVar) → length doc.dims < 2 ^ 31 → Fits doc v → begin < 2 ^ 63 → (var (version_of doc) doc.dims).Spells (variable doc begin v) (var_of begin v)
unfolding var variable shape
variable_put doc begin v few h at =
    let version = version_of doc in
    let a = spelled_name version v.name in
    let n = spelled_number version (length v.dims) in
    let i = flat_map (spelled_number version) v.dims in
    let t = tagged version 12 0 [] in
    let c = code (type_number (kind_of v.values)) in
    let z = vsize version (rounded (doc_piece_len doc v)) in
    let o = offset version begin in
    let regrouped : (a ++ n ++ i) ++ t ++ c ++ z ++ o ≡ a ++ ((n ++ i) ++ (t ++ (c ++ (z ++ o)))) =
    append_assoc ((a ++ n ++ i) ++ t ++ c) z o ∙ append_assoc ((a ++ n ++ i) ++ t) c (z ++ o) ∙ append_assoc (a ++ n ++ i) t (c ++ (z ++ o))
    ∙ ap (λ (s : List ℕ). s ++ (t ++ (c ++ (z ++ o)))) (append_assoc a n i) ∙ append_assoc a (n ++ i) (t ++ (c ++ (z ++ o))) in
    subst (λ (s : List ℕ). (var version doc.dims).Spells s (var_of begin v)) (sym regrouped)
    (then_put (name version) _ a _ v.name (var_of begin v) (name_put version v.name h.name)
    (then_put (dim_ids version doc.dims) _ (n ++ i) _ v.dims (var_of begin v) (ids_put version doc.dims v.dims h.ids (ids_fit version doc.dims v.dims few h.within h.apart))
    (then_put (att_list version) _ t _ [] (var_of begin v) (no_atts version)
    (then_put (nc_type version) _ c _ (kind_of v.values) (var_of begin v) (type_put version (kind_of v.values) h.type)
    (then_put (number (width version)) _ z o _ (var_of begin v) (vsize_put version (rounded (doc_piece_len doc v)))
    (then_last (number (begin_width version)) _ o begin (var_of begin v) (offset_put doc begin at) (refl, refl)))))))

vars_put : (doc : NcDoc) (front : List NcVar) (fixed record_place : ℕ) (vs : List DocVar) → length doc.dims < 2 ^ 31 → All (Fits doc) vs → fixed + sum_by (fixed_len doc) vs < 2 ^ 63 → record_place + sum_by (first_len doc) vs < 2 ^ 63
    → (items (λ _. var (version_of doc) doc.dims) (length vs) front).Spells (variables doc fixed record_place vs) (front ++ vars_of doc fixed record_place vs)
unfolding items
vars_put doc front fixed record_place [] few h one two = (refl, sym (append-nil front))
vars_put doc front fixed record_place (v ∷ vs) few h one two =
    let begin = begin_of doc fixed record_place v in
    let x = var_of begin v in
    let sums : (fixed + fixed_len doc v + sum_by (fixed_len doc) vs < 2 ^ 63) × (record_place + first_len doc v + sum_by (first_len doc) vs < 2 ^ 63) = (omega (arith, one, sum_by-cons (fixed_len doc) v vs), omega (arith, two, sum_by-cons (first_len doc) v vs)) in
    let at : begin < 2 ^ 63 = elim (is_record doc v) as (λ b. (if b then record_place else fixed) < 2 ^ 63) [ true ↦ omega (arith, sums.1) | false ↦ omega (arith, sums.0) ] in
    let here = variable_put doc begin v few (All-head (Fits doc) v vs h) at in
    let rest = vars_put doc (front ++ x ∷ []) (fixed + fixed_len doc v) (record_place + first_len doc v) vs few (All-tail (Fits doc) v vs h) sums.0 sums.1 in
    let after = vars_of doc (fixed + fixed_len doc v) (record_place + first_len doc v) vs in
    let same : (front ++ x ∷ []) ++ after ≡ front ++ x ∷ after = append_assoc front (x ∷ []) after in
    then_put (var (version_of doc) doc.dims) (λ y. items (λ _. var (version_of doc) doc.dims) (length vs) (front ++ y ∷ [])) (variable doc begin v) (variables doc (fixed + fixed_len doc v) (record_place + first_len doc v) vs) x (front ++ x ∷ after) here
    (subst (λ (r : List NcVar). (items (λ _. var (version_of doc) doc.dims) (length vs) (front ++ x ∷ [])).Spells (variables doc (fixed + fixed_len doc v) (record_place + first_len doc v) vs) r) same rest)

-- The whole header.

-- where a variable is Long, the version is 5
types_fit : (doc : NcDoc) (vs : List DocVar) → (list_any has_longs doc.vars ≡ true) ⊎ (list_any has_longs vs ≡ false) → AllByRecursion (λ v. is_type (version_of doc) (type_number (kind_of v.values)) ≡ true) vs
unfolding version_of
types_fit doc [] h = tt
types_fit doc (v ∷ vs) h =
    elim h [
      | inl e ↦ (values_known (version_of doc) v.values (inl (ap (λ (b : Bool). if b then 5 else 2) e)), types_fit doc vs (inl e))
      | inr e ↦ let k = either_false (has_longs v) (list_any has_longs vs) e in (values_known (version_of doc) v.values (inr k.0), types_fit doc vs (inr k.1))
    ]

all_types_fit : (doc : NcDoc) → All (λ v. is_type (version_of doc) (type_number (kind_of v.values)) ≡ true) doc.vars
all_types_fit doc =
    All-from_recursion (λ (v : DocVar). is_type (version_of doc) (type_number (kind_of v.values)) ≡ true) doc.vars
    (types_fit doc doc.vars (either (list_any has_longs doc.vars)))

vars_fit : (doc : NcDoc) → IsWellFormed doc → All (Fits doc) doc.vars
vars_fit doc h k d lt =
    record {
      name = h.short_lists.var_names k d lt;
      ids = h.short_lists.ids k d lt;
      within = h.ids k d lt;
      apart = h.record_dim_first k d lt;
      type = all_types_fit doc k d lt;
    }

pub doc_spelled : (doc : NcDoc) → IsWellFormed doc → IsSpelled (header doc (header_len doc)) (fields_of doc)
unfolding header body dim_list att_list var_list
doc_spelled doc h =
    let version = version_of doc in
    let short = h.short_lists in
    let begin = header_len doc in
    let records_at = begin + fixed_total doc in
    let r = spelled_number version doc.records in
    let d = tagged version 10 (length doc.dims) (flat_map (dimension version) doc.dims) in
    let a = tagged version 12 (length doc.atts) (flat_map (attribute version) doc.atts) in
    let v = tagged version 11 (length doc.vars) (variables doc begin records_at doc.vars) in
    let dims = doc.dims in
    let atts = map att_of doc.atts in
    let vars = vars_of doc begin records_at doc.vars in
    let m : List ℕ = 0x43 ∷ 0x44 ∷ 0x46 ∷ version ∷ [] in
    let regrouped : m ++ r ++ d ++ a ++ v ≡ m ++ (r ++ (d ++ (a ++ v))) = append_assoc (m ++ r ++ d) a v ∙ append_assoc (m ++ r) d (a ++ v) ∙ append_assoc m r (d ++ (a ++ v)) in
    let len = length_file_of doc (has_its_values doc h) in
    let first = first_within doc in
    let few : count_by is_zero_dim doc.dims ≤ 1 = h.one_record_dim in
    let dims_put = items_put (next_dim version) (dimension version) (λ x. x) [] doc.dims (dims_fit version [] doc.dims short.dim_names h.lens (omega (arith, few))) in
    let dim_items = subst (λ (l : List NcDim). (items (next_dim version) (length dims) []).Spells (flat_map (dimension version) dims) l) (map-id dims) dims_put in
    record {
      version = version;
      rest = r ++ (d ++ (a ++ v));
      parts = regrouped;
      known = known_version doc;
      is_body =
          then_put (numrecs version) _ r _ doc.records (fields_of doc) (numrecs_put version doc.records h.records)
          (then_put (dim_list version) _ d _ dims (fields_of doc) (listed_put version 10 (length doc.dims) (next_dim version) (flat_map (dimension version) doc.dims) dims (omega arith) short.dims (λ z. ap (flat_map (dimension version)) (none_of doc.dims z)) dim_items)
          (then_put (att_list version) _ a _ atts (fields_of doc) (listed_put version 12 (length doc.atts) (λ front. att version) (flat_map (attribute version) doc.atts) atts (omega arith) short.atts (λ z. ap (flat_map (attribute version)) (none_of doc.atts z)) (items_put (λ front. att version) (attribute version) att_of [] doc.atts (atts_fit version [] doc.atts short.att_names)))
          (then_last (var_list version dims) _ v vars (fields_of doc) (listed_put version 11 (length doc.vars) (λ front. var version dims) (variables doc begin records_at doc.vars) vars (omega arith) short.vars (λ z. ap (variables doc begin records_at) (none_of doc.vars z)) (vars_put doc [] begin records_at doc.vars short.dims (vars_fit doc h) (omega (arith, h.file, len)) (omega (arith, h.file, len, first)))) (refl, refl))));
    }

-- reading the file of a document gives the fields of its header, and where the header ends
pub file_read : (doc : NcDoc) → IsWellFormed doc → header_read (file_of doc) ≡ Ok (fields_of doc, header_len doc)
unfolding file_of
file_read doc h = header_whole (file_of doc) (header doc (header_len doc)) (data_of doc) (fields_of doc) refl (doc_spelled doc h) ∙ ap (λ (n : ℕ). Ok (fields_of doc, n)) (length_header_any doc (header_len doc))
