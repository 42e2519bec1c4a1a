-- What a document and the one that it stands for have in common: all but the numbers.
use Rattle.std.proofs.Common.{◌≡◌, ◌+◌, ◌++◌, ◌<◌, ◌^◌, ℕ, List, [], ◌∷◌, All, Bool, not, cond, ◌==◌, if◌then◌else◌, length, map, refl, ap, subst, ◌∙◌, arith}
use Rattle.std.specs.List.{list_any, sum_by, count_by, flat_map}
use Rattle.std.proofs.lemmas.List.{get_or-map, length-map}
use Rattle.std.proofs.lemmas.List.Sums.{sum_by-cons}
use Rattle.nc_write.specs.declared.Values.{Values}
use Rattle.nc_write.specs.declared.Values.TheVariants.{Byte, Int, Long}
use Rattle.nc_write.specs.declared.DocVar.{DocVar}
use Rattle.nc_write.specs.declared.NcDoc.{NcDoc}
use Rattle.nc_write.specs.declared.NcKind.{NcKind}
use Rattle.nc_write.specs.Widths.{dimension_tag, variable_tag, attribute_tag, number_bytes}
use Rattle.nc_write.specs.Extents.{lens_of, rounded, piece_len, share_of, has_several}
use Rattle.nc_write.specs.File.{kind_of, are_long, has_longs, version_of, is_record, pads_records, doc_piece_len, fixed_len, record_len, first_len, fixed_total, doc_step, tagged, dimension, attribute, shape, variable, variables, begin_of, header, header_len}
use Rattle.nc_write.specs.Form.{HasShortLists}
use Rattle.nc_write.specs.Made.{Made, listed, made_values, made_var, made_doc}

-- their type is the same
pub made_kind : (f : Made) (w : Values) → kind_of (made_values f w) ≡ kind_of w
made_kind f (Byte zs) = refl
made_kind f (Int zs) = refl
made_kind f (Long zs) = refl

made_longs : (f : Made) (w : Values) → are_long (made_values f w) ≡ are_long w
made_longs f (Byte zs) = refl
made_longs f (Int zs) = refl
made_longs f (Long zs) = refl

any_mapped : {A B : Type 0} (h : A → B) (p : B → Bool) (q : A → Bool) → ((x : A) → p (h x) ≡ q x) → (xs : List A) → list_any p (map h xs) ≡ list_any q xs
any_mapped h p q same [] = refl
any_mapped h p q same (x ∷ xs) = rw (same x, any_mapped h p q same xs) refl

sum_mapped : {A B : Type 0} (h : A → B) (p : B → ℕ) (q : A → ℕ) → ((x : A) → p (h x) ≡ q x) → (xs : List A) → sum_by p (map h xs) ≡ sum_by q xs
sum_mapped h p q same [] = refl
sum_mapped h p q same (x ∷ xs) = omega (arith, sum_by-cons p (h x) (map h xs), sum_by-cons q x xs, same x, sum_mapped h p q same xs)

count_mapped : {A B : Type 0} (h : A → B) (p : B → Bool) (q : A → Bool) → ((x : A) → p (h x) ≡ q x) → (xs : List A) → count_by p (map h xs) ≡ count_by q xs
count_mapped h p q same xs =
    sum_mapped h (λ y. cond (p y) 1 0) (λ x. cond (q x) 1 0) (λ x. ap (λ (b : Bool). cond b 1 0) (same x)) xs

pub made_version : (f : Made) (doc : NcDoc) → version_of (made_doc f doc) ≡ version_of doc
unfolding version_of
made_version f doc =
    ap (λ (b : Bool). if b then 5 else 2) (any_mapped (made_var f) has_longs has_longs (λ v. made_longs f v.values) doc.vars)

pub made_pads : (f : Made) (doc : NcDoc) → pads_records (made_doc f doc) ≡ pads_records doc
unfolding has_several
made_pads f doc =
    ap (λ (n : ℕ). not (n == 1)) (count_mapped (made_var f) (is_record (made_doc f doc)) (is_record doc) (λ v. refl) doc.vars)

pub made_piece : (f : Made) (doc : NcDoc) (v : DocVar) → doc_piece_len (made_doc f doc) (made_var f v) ≡ doc_piece_len doc v
made_piece f doc v = ap (λ (kind : NcKind). piece_len (lens_of doc.dims) kind v.dims) (made_kind f v.values)

pub made_fixed : (f : Made) (doc : NcDoc) (v : DocVar) → fixed_len (made_doc f doc) (made_var f v) ≡ fixed_len doc v
made_fixed f doc v = ap (λ (n : ℕ). if is_record doc v then 0 else rounded n) (made_piece f doc v)

made_record : (f : Made) (doc : NcDoc) (v : DocVar) → record_len (made_doc f doc) (made_var f v) ≡ record_len doc v
made_record f doc v =
    ap (λ (b : Bool). share_of b (is_record doc v) (doc_piece_len (made_doc f doc) (made_var f v))) (made_pads f doc)
    ∙ ap (λ (n : ℕ). share_of (pads_records doc) (is_record doc v) n) (made_piece f doc v)

made_first : (f : Made) (doc : NcDoc) (v : DocVar) → first_len (made_doc f doc) (made_var f v) ≡ first_len doc v
made_first f doc v = ap (λ (n : ℕ). if doc.records == 0 then 0 else n) (made_record f doc v)

pub made_fixed_total : (f : Made) (doc : NcDoc) → fixed_total (made_doc f doc) ≡ fixed_total doc
made_fixed_total f doc = sum_mapped (made_var f) (fixed_len (made_doc f doc)) (fixed_len doc) (made_fixed f doc) doc.vars

pub made_firsts : (f : Made) (doc : NcDoc) → sum_by (first_len (made_doc f doc)) (made_doc f doc).vars ≡ sum_by (first_len doc) doc.vars
made_firsts f doc = sum_mapped (made_var f) (first_len (made_doc f doc)) (first_len doc) (made_first f doc) doc.vars

pub made_step : (f : Made) (doc : NcDoc) → doc_step (made_doc f doc) ≡ doc_step doc
made_step f doc = sum_mapped (made_var f) (record_len (made_doc f doc)) (record_len doc) (made_record f doc) doc.vars

-- The header.

made_variable : (f : Made) (doc : NcDoc) (begin : ℕ) (v : DocVar) → variable (made_doc f doc) begin (made_var f v) ≡ variable doc begin v
unfolding variable shape
made_variable f doc begin v = rw (made_version f doc, made_kind f v.values) refl

made_variables : (f : Made) (doc : NcDoc) (fixed place : ℕ) (vs : List DocVar) → variables (made_doc f doc) fixed place (map (made_var f) vs) ≡ variables doc fixed place vs
made_variables f doc fixed place [] = refl
made_variables f doc fixed place (v ∷ vs) =
    let m = made_doc f doc in
    let here : variable m (begin_of doc fixed place v) (made_var f v) ≡ variable doc (begin_of doc fixed place v) v = made_variable f doc (begin_of doc fixed place v) v in
    let behind : variables m (fixed + fixed_len m (made_var f v)) (place + first_len m (made_var f v)) (map (made_var f) vs) ≡ variables doc (fixed + fixed_len doc v) (place + first_len doc v) vs =
    ap (λ (n : ℕ). variables m (fixed + n) (place + first_len m (made_var f v)) (map (made_var f) vs)) (made_fixed f doc v)
    ∙ ap (λ (n : ℕ). variables m (fixed + fixed_len doc v) (place + n) (map (made_var f) vs)) (made_first f doc v)
    ∙ made_variables f doc (fixed + fixed_len doc v) (place + first_len doc v) vs in
    ap (λ (bytes : List ℕ). bytes ++ variables m (fixed + fixed_len m (made_var f v)) (place + first_len m (made_var f v)) (map (made_var f) vs)) here
    ∙ ap (λ (bytes : List ℕ). variable doc (begin_of doc fixed place v) v ++ bytes) behind

-- the header of a version, with the list of variables
header_with : NcDoc → ℕ → ℕ → List ℕ → List ℕ
header_with doc version count vars =
    0x43 ∷ 0x44 ∷ 0x46 ∷ version ∷ []
    ++ number_bytes version doc.records
    ++ tagged version dimension_tag (length doc.dims) (flat_map (dimension version) doc.dims)
    ++ tagged version attribute_tag (length doc.atts) (flat_map (attribute version) doc.atts)
    ++ tagged version variable_tag count vars

pub made_header : (f : Made) (doc : NcDoc) (begin : ℕ) → header (made_doc f doc) begin ≡ header doc begin
unfolding header header_with
made_header f doc begin =
    let m = made_doc f doc in
    ap (λ (version : ℕ). header_with doc version (length m.vars) (variables m begin (begin + fixed_total m) m.vars)) (made_version f doc)
    ∙ ap (λ (count : ℕ). header_with doc (version_of doc) count (variables m begin (begin + fixed_total m) m.vars)) (length-map doc.vars (made_var f))
    ∙ ap (λ (total : ℕ). header_with doc (version_of doc) (length doc.vars) (variables m begin (begin + total) m.vars)) (made_fixed_total f doc)
    ∙ ap (header_with doc (version_of doc) (length doc.vars)) (made_variables f doc begin (begin + fixed_total doc) doc.vars)

pub made_header_len : (f : Made) (doc : NcDoc) → header_len (made_doc f doc) ≡ header_len doc
unfolding header_len
made_header_len f doc = ap length (made_header f doc 0)

-- What is said of each variable.

pub all_unmapped : {A B : Type 0} (P : B → Type 0) (h : A → B) (xs : List A) → All P (map h xs) → All (λ x. P (h x)) xs
all_unmapped P h xs all k d lt =
    subst P (get_or-map h xs k d (h d) lt) (all k (h d) (omega (arith, length-map xs h, lt)))

pub made_short : (f : Made) (doc : NcDoc) → HasShortLists (made_doc f doc) → HasShortLists doc
made_short f doc short =
    record {
      dims = short.dims;
      dim_names = short.dim_names;
      atts = short.atts;
      att_names = short.att_names;
      vars = omega (arith, length-map doc.vars (made_var f), short.vars);
      var_names = all_unmapped (λ v. length v.name < 2 ^ 31) (made_var f) doc.vars short.var_names;
      ids = all_unmapped (λ v. length v.dims < 2 ^ 31) (made_var f) doc.vars short.ids;
    }

-- a document each of whose lists stands for itself

values_listed : (w : Values) → made_values listed w ≡ w
values_listed (Byte zs) = refl
values_listed (Int zs) = refl
values_listed (Long zs) = refl

vars_listed : (vs : List DocVar) → map (made_var listed) vs ≡ vs
vars_listed [] = refl
vars_listed (v ∷ vs) =
    ap (λ (w : Values). record { name = v.name; dims = v.dims; values = w } ∷ map (made_var listed) vs) (values_listed v.values) ∙ ap (λ (us : List DocVar). v ∷ us) (vars_listed vs)

pub listed_doc : (doc : NcDoc) → made_doc listed doc ≡ doc
listed_doc doc = ap (λ (vs : List DocVar). record { records = doc.records; dims = doc.dims; atts = doc.atts; vars = vs }) (vars_listed doc.vars)
