-- The header of a document says what the document says, and its file holds all values.
use Rattle.std.proofs.Common.{◌≡◌, ℕ, zero, suc, ◌+◌, ◌-◌, ◌*◌, ◌<◌, ◌≤◌, Bool, true, false, ltb, not, ◌==◌, if◌then◌else◌, List, [], ◌∷◌, length, map, All, refl, sym, ap, subst, ◌∙◌, arith}
use Rattle.std.specs.List.{count_by, sum_by, AllByRecursion}
use Rattle.std.proofs.Math.Nat.{suc-mul}
use Rattle.std.proofs.lemmas.Bool.{le-ltb, lt-ltb}
use Rattle.std.proofs.lemmas.Bool.Decides.{nat_tests}
use Rattle.std.proofs.lemmas.List.Elements.{All-from_recursion}
use Rattle.std.proofs.lemmas.List.Sums.{sum_by-cons}
use Rattle.nc_write.specs.declared.NcDoc.{NcDoc}
use Rattle.nc_write.specs.declared.DocVar.{DocVar}
use Rattle.nc_write.specs.Extents.{pad_len, share_of, has_several}
use Rattle.nc_write.specs.File.{kind_of, is_record, pads_records, fixed_len, record_len, first_len, fixed_total, begin_of, header, header_len, data_of, file_of, doc_piece_len, doc_step}
use Rattle.nc_write.specs.Form.{IsWellFormed}
use Rattle.nc_write.proofs.Places.{has_its_values, length_file_of}
use Rattle.nc_write.specs.declared.DocDim.{DocDim as NcDim}
use Rattle.nc_format.specs.declared.NcVar.{NcVar}
use Rattle.nc_format.specs.Placing.{is_record_var, var_piece_len, step_from, placed, is_outside}
use Rattle.nc_format.specs.Header.{IsHeader}
use Rattle.nc_format.specs.Written.{var_of, vars_of, fields_of, header_of, IsOfDoc}
use Rattle.nc_format.proofs.Spelled.{doc_spelled}

-- What a header and its document have in common.

placed_map : {A : Type 0} (f : NcVar → A) (g : DocVar → A) (records : ℕ) (dims : List NcDim) (step : ℕ) → ((begin : ℕ) (v : DocVar) → f (placed records dims step (var_of begin v)) ≡ g v)
    → (doc : NcDoc) (fixed record_place : ℕ) (vs : List DocVar) → map f (map (placed records dims step) (vars_of doc fixed record_place vs)) ≡ map g vs
placed_map f g records dims step h doc fixed record_place [] = refl
placed_map f g records dims step h doc fixed record_place (v ∷ vs) =
    let here = h (begin_of doc fixed record_place v) v in
    let rest = placed_map f g records dims step h doc (fixed + fixed_len doc v) (record_place + first_len doc v) vs in
    rw (here, rest) refl

pub is_of_doc : (doc : NcDoc) → IsOfDoc doc (header_of doc)
unfolding placed
is_of_doc doc =
    let step = step_from (fields_of doc).dims (fields_of doc).vars in
    let begin = header_len doc in
    let records_at = begin + fixed_total doc in
    record {
      records = refl;
      dims = refl;
      atts = refl;
      names = placed_map (λ v. v.name) (λ v. v.name) doc.records doc.dims step (λ b v. refl) doc begin records_at doc.vars;
      shapes = placed_map (λ v. v.dims) (λ v. v.dims) doc.records doc.dims step (λ b v. refl) doc begin records_at doc.vars;
      kinds = placed_map (λ v. v.kind) (λ v. kind_of v.values) doc.records doc.dims step (λ b v. refl) doc begin records_at doc.vars;
    }

-- Pieces and steps.

pub piece_same : (doc : NcDoc) (begin : ℕ) (v : DocVar) → var_piece_len doc.dims (var_of begin v) ≡ doc_piece_len doc v
piece_same doc begin v = refl

pub record_same : (doc : NcDoc) (begin : ℕ) (v : DocVar) → is_record_var doc.dims (var_of begin v) ≡ is_record doc v
record_same doc begin v = refl

sum_same : (f : NcVar → ℕ) (g : DocVar → ℕ) → ((begin : ℕ) (v : DocVar) → f (var_of begin v) ≡ g v) → (doc : NcDoc) (fixed record_place : ℕ) (vs : List DocVar) → sum_by f (vars_of doc fixed record_place vs) ≡ sum_by g vs
sum_same f g h doc fixed record_place [] = refl
sum_same f g h doc fixed record_place (v ∷ vs) =
    let begin = begin_of doc fixed record_place v in
    let rest = vars_of doc (fixed + fixed_len doc v) (record_place + first_len doc v) vs in
    omega (arith, sum_by-cons f (var_of begin v) rest, sum_by-cons g v vs, h begin v, sum_same f g h doc (fixed + fixed_len doc v) (record_place + first_len doc v) vs)

pub step_same : (doc : NcDoc) (fixed record_place : ℕ) → step_from doc.dims (vars_of doc fixed record_place doc.vars) ≡ doc_step doc
unfolding has_several
step_same doc fixed record_place =
    let dims = doc.dims in
    let vars = vars_of doc fixed record_place doc.vars in
    let several = not (count_by (is_record doc) doc.vars == 1) in
    let share : Bool → NcVar → ℕ = λ s v. share_of s (is_record_var dims v) (var_piece_len dims v) in
    let counted : count_by (is_record_var dims) vars ≡ count_by (is_record doc) doc.vars =
    sum_same (λ (x : NcVar). if is_record_var dims x then 1 else 0) (λ (v : DocVar). if is_record doc v then 1 else 0) (λ begin v. refl) doc fixed record_place doc.vars in
    ap (λ (n : ℕ). sum_by (share (not (n == 1))) vars) counted
    ∙ sum_same (share several) (λ v. share_of several (is_record doc v) (doc_piece_len doc v)) (λ begin v. refl) doc fixed record_place doc.vars

-- The file holds all values.

piece_within : (doc : NcDoc) (v : DocVar) → is_record doc v ≡ true → doc_piece_len doc v ≤ record_len doc v
piece_within doc v e = elim (pads_records doc) as (λ s. doc_piece_len doc v ≤ share_of s (is_record doc v) (doc_piece_len doc v)) [
  | true ↦ rw e (omega arith)
  | false ↦ rw e (omega arith)
]

-- the end of a variable's values: where its pieces begin and the step are those of the document
fixed_inside : (records : ℕ) (dims : List NcDim) (step len : ℕ) (w : NcVar) → is_record_var dims w ≡ false → w.begin + var_piece_len dims w ≤ len → is_outside len (placed records dims step w) ≡ false
unfolding placed
fixed_inside records dims step len w e le =
    let k : ltb len (w.begin + 0 + var_piece_len dims w) ≡ false = le-ltb _ _ (omega arith) in
    rw e k

record_inside : (records : ℕ) (dims : List NcDim) (step len : ℕ) (w : NcVar) → is_record_var dims w ≡ true → (0 < records → w.begin + (records - 1) * step + var_piece_len dims w ≤ len) → is_outside len (placed records dims step w) ≡ false
unfolding placed
record_inside zero dims step len w e le = rw e refl
record_inside (suc zero) dims step len w e le =
    let k : ltb len (w.begin + 0 + var_piece_len dims w) ≡ false = le-ltb _ _ (let h = le (omega arith) in omega arith) in
    rw e k
record_inside (suc (suc n)) dims step len w e le =
    let some : ltb 0 (suc (suc n)) ≡ true = lt-ltb _ _ (omega arith) in
    let several : ltb 1 (suc (suc n)) ≡ true = lt-ltb _ _ (omega arith) in
    let not_none : (suc (suc n) == 0) ≡ false = grind (arith, nat_tests) in
    let k : ltb len (w.begin + (suc (suc n) - 1) * step + var_piece_len dims w) ≡ false = le-ltb _ _ (le (omega arith)) in
    rw (e, some, several, not_none, k) refl

-- all records but the last, and one more
one_more : (records step : ℕ) → 0 < records → (records - 1) * step + step ≡ records * step
one_more zero step h = absurd (omega arith)
one_more (suc n) step h = ap (λ (k : ℕ). k * step + step) (let e : suc n - 1 ≡ n = omega arith in e) ∙ sym (suc-mul n step)

first_is : (doc : NcDoc) (v : DocVar) → 0 < doc.records → first_len doc v ≡ record_len doc v
first_is doc v h = ap (λ (b : Bool). if b then 0 else record_len doc v) (let e : (doc.records == 0) ≡ false = grind (arith, nat_tests) in e)

vars_inside : (doc : NcDoc) (top : ℕ) (fixed record_place : ℕ) (vs : List DocVar) → fixed + sum_by (fixed_len doc) vs ≤ top → (0 < doc.records → record_place + sum_by (first_len doc) vs ≤ top + doc_step doc)
    → AllByRecursion (λ w. is_outside (top + doc.records * doc_step doc) w ≡ false) (map (placed doc.records doc.dims (doc_step doc)) (vars_of doc fixed record_place vs))
vars_inside doc top fixed record_place [] one two = tt
vars_inside doc top fixed record_place (v ∷ vs) one two =
    let dims = doc.dims in
    let step = doc_step doc in
    let len = top + doc.records * step in
    let more = vars_inside doc top (fixed + fixed_len doc v) (record_place + first_len doc v) vs (omega (arith, one, sum_by-cons (fixed_len doc) v vs)) (λ some. let t = two some in omega (arith, t, sum_by-cons (first_len doc) v vs)) in
    let here : is_outside len (placed doc.records dims step (var_of (begin_of doc fixed record_place v) v)) ≡ false =
    by_case doc top fixed record_place v vs one two (is_record doc v) refl in
    (here, more)
  where
    by_case : (doc : NcDoc) (top fixed record_place : ℕ) (v : DocVar) (vs : List DocVar) → fixed + sum_by (fixed_len doc) (v ∷ vs) ≤ top → (0 < doc.records → record_place + sum_by (first_len doc) (v ∷ vs) ≤ top + doc_step doc) → (b : Bool) → is_record doc v ≡ b
        → is_outside (top + doc.records * doc_step doc) (placed doc.records doc.dims (doc_step doc) (var_of (begin_of doc fixed record_place v) v)) ≡ false
    by_case doc top fixed record_place v vs one two true e =
        let begin = begin_of doc fixed record_place v in
        let at : begin ≡ record_place = ap (λ (b : Bool). if b then record_place else fixed) e in
        record_inside doc.records doc.dims (doc_step doc) (top + doc.records * doc_step doc) (var_of begin v) (record_same doc begin v ∙ e)
        (λ some. let t = two some in omega (arith, at, t, sum_by-cons (first_len doc) v vs, first_is doc v some, piece_within doc v e, piece_same doc begin v, one_more doc.records (doc_step doc) some))
    by_case doc top fixed record_place v vs one two false e =
        let begin = begin_of doc fixed record_place v in
        let at : begin ≡ fixed = ap (λ (b : Bool). if b then record_place else fixed) e in
        let size : fixed_len doc v ≡ doc_piece_len doc v + pad_len (doc_piece_len doc v) = ap (λ (b : Bool). if b then 0 else doc_piece_len doc v + pad_len (doc_piece_len doc v)) e in
        fixed_inside doc.records doc.dims (doc_step doc) (top + doc.records * doc_step doc) (var_of begin v) (record_same doc begin v ∙ e)
        (omega (arith, at, one, sum_by-cons (fixed_len doc) v vs, size, piece_same doc begin v))

-- the first records are no longer than one step
pub first_step : (doc : NcDoc) (vs : List DocVar) → 0 < doc.records → sum_by (first_len doc) vs ≡ sum_by (record_len doc) vs
first_step doc [] some = refl
first_step doc (v ∷ vs) some = omega (arith, sum_by-cons (first_len doc) v vs, sum_by-cons (record_len doc) v vs, first_is doc v some, first_step doc vs some)

pub doc_inside : (doc : NcDoc) → IsWellFormed doc → All (λ w. is_outside (length (file_of doc)) w ≡ false) (header_of doc).vars
doc_inside doc h =
    let top = header_len doc + fixed_total doc in
    let step = doc_step doc in
    let len : length (file_of doc) ≡ top + doc.records * step = omega (arith, length_file_of doc (has_its_values doc h)) in
    let vars = vars_of doc (header_len doc) top doc.vars in
    let all : AllByRecursion (λ w. is_outside (top + doc.records * step) w ≡ false) (map (placed doc.records doc.dims step) vars) =
    vars_inside doc top (header_len doc) top doc.vars (omega arith) (λ some. omega (arith, first_step doc doc.vars some)) in
    let whole = All-from_recursion (λ (w : NcVar). is_outside (top + doc.records * step) w ≡ false) (map (placed doc.records doc.dims step) vars) all in
    let with_step = subst (λ (s : ℕ). All (λ w. is_outside (top + doc.records * step) w ≡ false) (map (placed doc.records doc.dims s) vars)) (sym (step_same doc (header_len doc) top)) whole in
    subst (λ (n : ℕ). All (λ w. is_outside n w ≡ false) (header_of doc).vars) (sym len) with_step

-- the file of a document has the document's header
pub doc_header : (doc : NcDoc) → IsWellFormed doc → IsHeader (file_of doc) (length (file_of doc)) (header_of doc)
unfolding file_of
doc_header doc h = record { header = header doc (header_len doc); rest = data_of doc; fields = fields_of doc; parts = refl; spelled = doc_spelled doc h; placed = refl; inside = doc_inside doc h }
