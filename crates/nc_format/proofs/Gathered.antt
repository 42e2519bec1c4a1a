-- The pieces of a variable in a document's file are its values.
use Rattle.std.proofs.Common.{◌≡◌, ◌⊎◌, inl, inr, ℕ, zero, suc, ◌+◌, ◌-◌, ◌*◌, ◌<◌, Bool, true, false, ◌==◌, if◌then◌else◌, List, [], ◌∷◌, ◌++◌, length, map, take, drop, replicate, slice_range, All, refl, sym, ap, subst, ◌∙◌, append_assoc, add-one, arith}
use Rattle.std.specs.List.{flat_map, range_with_len, sum_by, AllZip}
use Rattle.std.proofs.Math.Nat.{suc-mul, one-mul}
use Rattle.std.proofs.Math.Seq.{take-add}
use Rattle.std.proofs.lemmas.Bool.{lt-ltb}
use Rattle.std.proofs.lemmas.Bool.Decides.{nat_tests}
use Rattle.std.proofs.lemmas.Grind.{flat_map-append}
use Rattle.std.proofs.lemmas.List.{append-nil, take_at, take_all, length-drop, length-take-le}
use Rattle.std.proofs.lemmas.List.Concat.{flat_map-cons}
use Rattle.std.proofs.lemmas.List.Elements.{All-head, All-tail}
use Rattle.std.proofs.lemmas.List.Sums.{sum_by_push}
use Rattle.nc_write.specs.declared.NcKind.{NcKind}
use Rattle.nc_write.specs.declared.NcDoc.{NcDoc}
use Rattle.nc_write.specs.declared.DocVar.{DocVar}
use Rattle.nc_write.specs.Kinds.{size_of, value}
use Rattle.nc_write.specs.Extents.{pad_len, lens_of, piece_count, piece_len}
use Rattle.nc_write.specs.File.{kind_of, numbers_of, is_record, pads_records, fixed_len, record_len, first_len, fixed_total, begin_of, header_len, file_of, padded_bytes, padded_if, value_bytes, fixed_data, record_numbers, record_data, doc_piece_len, doc_step}
use Rattle.nc_write.specs.Form.{IsWellFormed, HasItsValues}
use Rattle.nc_write.proofs.Places.{has_its_values, length_value_bytes, record_within}
use Rattle.nc_write.proofs.Records.{flat_range_more}
use Rattle.nc_write.proofs.Standing.{fixed_stands, record_stands}
use Rattle.nc_format.specs.declared.NcVar.{NcVar}
use Rattle.nc_format.specs.Placing.{is_record_var, var_piece_len, part_of, own_step, placed}
use Rattle.nc_format.specs.Numbers.{numbers_in, piece_of, gathered}
use Rattle.nc_format.specs.Written.{var_of, vars_of, header_of, HasTypedValues}
use Rattle.nc_format.proofs.Inside.{piece_same, record_same, step_same, first_step}
use Rattle.nc_format.proofs.ReadBack.{numbers_back}

-- Lists.

-- a part of a list, by what stands at its place and what follows
slice_front : (file bytes pad rest : List ℕ) (at i j : ℕ) → drop at file ≡ (bytes ++ pad) ++ rest → i ≡ at → j ≡ i + length bytes → slice_range file i j ≡ bytes
slice_front file bytes pad rest at i j e is end =
    ap (λ (k : ℕ). take (j - i) (drop k file)) is
    ∙ ap (take (j - i)) (e ∙ append_assoc bytes pad rest)
    ∙ take_at bytes (pad ++ rest) (j - i) (omega (arith, end))

flat_same : (f g : ℕ → List ℕ) (a n : ℕ) → ((r : ℕ) → r < a + n → f r ≡ g r) → flat_map f (range_with_len a n) ≡ flat_map g (range_with_len a n)
flat_same f g a zero h = refl
flat_same f g a (suc n) h =
    flat_map-cons f a (range_with_len (a + 1) n)
    ∙ ap (λ (l : List ℕ). l ++ flat_map f (range_with_len (a + 1) n)) (h a (omega arith))
    ∙ ap (λ (l : List ℕ). g a ++ l) (flat_same f g (a + 1) n (λ r lt. h r (omega arith)))
    ∙ sym (flat_map-cons g a (range_with_len (a + 1) n))

-- Records.

-- a record variable has the values of all records
record_count : (doc : NcDoc) (v : DocVar) → is_record doc v ≡ true → HasItsValues doc v → length (numbers_of v.values) ≡ doc.records * piece_count (lens_of doc.dims) v.dims
record_count doc v e h = h ∙ ap (λ (b : Bool). (if b then doc.records else 1) * piece_count (lens_of doc.dims) v.dims) e

-- the bytes of one record of a variable, without padding
record_bytes : NcDoc → DocVar → ℕ → List ℕ
record_bytes doc v r = value_bytes (kind_of v.values) (record_numbers doc r v)

record_bytes_len : (doc : NcDoc) (v : DocVar) (r : ℕ) → r < doc.records → is_record doc v ≡ true → HasItsValues doc v → length (record_bytes doc v r) ≡ doc_piece_len doc v
unfolding record_bytes piece_len
record_bytes_len doc v r lt e h =
    let count = piece_count (lens_of doc.dims) v.dims in
    let n = record_count doc v e h in
    let within = record_within r doc.records count lt in
    let part : length (record_numbers doc r v) ≡ count = length-take-le count (drop (r * count) (numbers_of v.values)) (omega (arith, length-drop (r * count) (numbers_of v.values), within, n)) in
    length_value_bytes (kind_of v.values) (record_numbers doc r v) ∙ ap (λ k. size_of (kind_of v.values) * k) part

record_is : (doc : NcDoc) (v : DocVar) (r : ℕ) → is_record doc v ≡ true → record_data doc r v ≡ padded_if (pads_records doc) (record_bytes doc v r)
unfolding record_data record_bytes
record_is doc v r e = ap (λ (b : Bool). if b then padded_if (pads_records doc) (value_bytes (kind_of v.values) (record_numbers doc r v)) else []) e

-- Pieces.

-- padding stands behind
padding_behind : (several : Bool) (bytes : List ℕ) → (pad : List ℕ) × (padded_if several bytes ≡ bytes ++ pad)
padding_behind true bytes = (replicate (pad_len (length bytes)) 0x81, refl)
padding_behind false bytes = ([], sym (append-nil bytes))

-- the variables of a document up to one of them, it, and those behind
pub record Split (doc : NcDoc) (before : List DocVar) (v : DocVar) (after : List DocVar) : Type 0 where
  pub parts : doc.vars ≡ before ++ v ∷ after
  pub has : HasItsValues doc v
  pub all_have : All (HasItsValues doc) doc.vars

fixed_slice : (doc : NcDoc) (before : List DocVar) (v : DocVar) (after : List DocVar) → Split doc before v after → is_record doc v ≡ false → (i j : ℕ) → i ≡ header_len doc + sum_by (fixed_len doc) before → j ≡ i + doc_piece_len doc v
    → slice_range (file_of doc) i j ≡ value_bytes (kind_of v.values) (numbers_of v.values)
unfolding fixed_data piece_len
fixed_slice doc before v after s e i j at end =
    let bytes = value_bytes (kind_of v.values) (numbers_of v.values) in
    let pad : List ℕ = replicate (pad_len (length bytes)) 0x81 in
    let stands = fixed_stands doc before after v s.parts s.all_have in
    let here : fixed_data doc v ≡ bytes ++ pad = ap (λ (b : Bool). if b then [] else padded_bytes 0x81 bytes) e in
    let n : length bytes ≡ size_of (kind_of v.values) * piece_count (lens_of doc.dims) v.dims =
    length_value_bytes (kind_of v.values) (numbers_of v.values) ∙ ap (λ k. size_of (kind_of v.values) * k) (s.has ∙ ap (λ (b : Bool). (if b then doc.records else 1) * piece_count (lens_of doc.dims) v.dims) e ∙ one-mul (piece_count (lens_of doc.dims) v.dims)) in
    slice_front (file_of doc) bytes pad stands.0 (header_len doc + sum_by (fixed_len doc) before) i j (stands.1 ∙ ap (λ (l : List ℕ). l ++ stands.0) here) at (end ∙ ap (λ (k : ℕ). i + k) (sym n))

record_slice : (doc : NcDoc) (before : List DocVar) (v : DocVar) (after : List DocVar) → Split doc before v after → is_record doc v ≡ true → (r : ℕ) → r < doc.records → (i j : ℕ) → i ≡ header_len doc + fixed_total doc + sum_by (record_len doc) before + r * doc_step doc → j ≡ i + doc_piece_len doc v
    → slice_range (file_of doc) i j ≡ record_bytes doc v r
record_slice doc before v after s e r lt i j at end =
    let bytes = record_bytes doc v r in
    let pad = padding_behind (pads_records doc) bytes in
    let stands = record_stands doc before after v s.parts s.all_have r lt in
    let here : record_data doc r v ≡ bytes ++ pad.0 = record_is doc v r e ∙ pad.1 in
    slice_front (file_of doc) bytes pad.0 stands.0 (header_len doc + fixed_total doc + sum_by (record_len doc) before + r * doc_step doc) i j (stands.1 ∙ ap (λ (l : List ℕ). l ++ stands.0) here) at (end ∙ ap (λ (k : ℕ). i + k) (sym (record_bytes_len doc v r lt e s.has)))

-- All pieces of a variable.

gathered_one : (w : NcVar) (file bytes : List ℕ) → w.parts ≡ 1 → piece_of w file 0 ≡ bytes → gathered w file ≡ bytes
unfolding gathered
gathered_one w file bytes one h = ap (λ (n : ℕ). flat_map (piece_of w file) (range_with_len 0 n)) one ∙ flat_map-cons (piece_of w file) 0 [] ∙ append-nil (piece_of w file 0) ∙ h

gathered_many : (w : NcVar) (file : List ℕ) (n : ℕ) (f : ℕ → List ℕ) → w.parts ≡ n → ((r : ℕ) → r < n → piece_of w file r ≡ f r) → gathered w file ≡ flat_map f (range_with_len 0 n)
unfolding gathered
gathered_many w file n f many h = ap (λ (k : ℕ). flat_map (piece_of w file) (range_with_len 0 k)) many ∙ flat_same (piece_of w file) f 0 n (λ r lt. h r (omega arith))

-- the step counts only where there are several pieces
own_step_is : (n step r : ℕ) → r < n → r * own_step n step ≡ r * step
own_step_is n step zero lt = omega arith
own_step_is n step (suc r) lt = ap (λ (b : Bool). suc r * (if b then step else 0)) (lt-ltb 1 n (omega arith))

part_is : (n len r : ℕ) → r < n → part_of n len ≡ len
part_is n len r lt = ap (λ (b : Bool). if b then 0 else len) (let e : (n == 0) ≡ false = grind (arith, nat_tests) in e)

-- the records of a variable, one after another, are its values
records_joined : (doc : NcDoc) (v : DocVar) (n : ℕ) → flat_map (record_bytes doc v) (range_with_len 0 n) ≡ value_bytes (kind_of v.values) (take (n * piece_count (lens_of doc.dims) v.dims) (numbers_of v.values))
unfolding record_bytes
records_joined doc v zero = ap (λ (k : ℕ). value_bytes (kind_of v.values) (take k (numbers_of v.values))) (let e : 0 ≡ 0 * piece_count (lens_of doc.dims) v.dims = omega arith in e)
records_joined doc v (suc n) =
    let count = piece_count (lens_of doc.dims) v.dims in
    let numbers = numbers_of v.values in
    let kind = kind_of v.values in
    ap (λ (k : ℕ). flat_map (record_bytes doc v) (range_with_len 0 k)) (sym (add-one n))
    ∙ flat_range_more (record_bytes doc v) n
    ∙ ap (λ (l : List ℕ). l ++ value_bytes kind (take count (drop (n * count) numbers))) (records_joined doc v n)
    ∙ sym (flat_map-append (value kind) (take (n * count) numbers) (take count (drop (n * count) numbers)))
    ∙ ap (value_bytes kind) (sym (take-add (n * count) count numbers))
    ∙ ap (λ (k : ℕ). value_bytes kind (take k numbers)) (sym (suc-mul n count))

-- a variable as it stands in the header of a document: behind those before it
abbrev header_var : NcDoc → List DocVar → DocVar → NcVar
header_var doc before v =
    placed doc.records doc.dims (doc_step doc) (var_of (begin_of doc (header_len doc + sum_by (fixed_len doc) before) (header_len doc + fixed_total doc + sum_by (first_len doc) before) v) v)

fixed_gathered : (doc : NcDoc) (before : List DocVar) (v : DocVar) (after : List DocVar) → Split doc before v after → is_record doc v ≡ false → gathered (header_var doc before v) (file_of doc) ≡ value_bytes (kind_of v.values) (numbers_of v.values)
unfolding placed
fixed_gathered doc before v after s e =
    let fixed = header_len doc + sum_by (fixed_len doc) before in
    let begin = begin_of doc fixed (header_len doc + fixed_total doc + sum_by (first_len doc) before) v in
    let w = header_var doc before v in
    let at : begin ≡ fixed = ap (λ (b : Bool). if b then header_len doc + fixed_total doc + sum_by (first_len doc) before else fixed) e in
    let is_not : is_record_var doc.dims (var_of begin v) ≡ false = record_same doc begin v ∙ e in
    let one : w.parts ≡ 1 = ap (λ (b : Bool). if b then doc.records else 1) is_not in
    let part : w.part ≡ doc_piece_len doc v = ap (λ (n : ℕ). part_of n (var_piece_len doc.dims (var_of begin v))) one ∙ piece_same doc begin v in
    let none : 0 * w.step ≡ 0 = omega arith in
    gathered_one w (file_of doc) (value_bytes (kind_of v.values) (numbers_of v.values)) one
    (fixed_slice doc before v after s e (w.begin + 0 * w.step) (w.begin + 0 * w.step + w.part) (omega (arith, at, none)) (omega (arith, part)))

record_gathered : (doc : NcDoc) (before : List DocVar) (v : DocVar) (after : List DocVar) → Split doc before v after → is_record doc v ≡ true → gathered (header_var doc before v) (file_of doc) ≡ value_bytes (kind_of v.values) (numbers_of v.values)
unfolding placed
record_gathered doc before v after s e =
    let records_at = header_len doc + fixed_total doc + sum_by (first_len doc) before in
    let begin = begin_of doc (header_len doc + sum_by (fixed_len doc) before) records_at v in
    let w = header_var doc before v in
    let at : begin ≡ records_at = ap (λ (b : Bool). if b then records_at else header_len doc + sum_by (fixed_len doc) before) e in
    let is : is_record_var doc.dims (var_of begin v) ≡ true = record_same doc begin v ∙ e in
    let many : w.parts ≡ doc.records = ap (λ (b : Bool). if b then doc.records else 1) is in
    let piece : (r : ℕ) → r < doc.records → piece_of w (file_of doc) r ≡ record_bytes doc v r =
    λ r lt.
    let step : r * w.step ≡ r * doc_step doc = ap (λ (n : ℕ). r * own_step n (doc_step doc)) many ∙ own_step_is doc.records (doc_step doc) r lt in
    let part : w.part ≡ doc_piece_len doc v = ap (λ (n : ℕ). part_of n (var_piece_len doc.dims (var_of begin v))) many ∙ part_is doc.records (var_piece_len doc.dims (var_of begin v)) r lt ∙ piece_same doc begin v in
    record_slice doc before v after s e r lt (w.begin + r * w.step) (w.begin + r * w.step + w.part) (omega (arith, at, step, first_step doc before (omega arith))) (omega (arith, part)) in
    let count = piece_count (lens_of doc.dims) v.dims in
    gathered_many w (file_of doc) doc.records (record_bytes doc v) many piece
    ∙ records_joined doc v doc.records
    ∙ ap (value_bytes (kind_of v.values)) (take_all (doc.records * count) (numbers_of v.values) (omega (arith, record_count doc v e s.has)))

either : (b : Bool) → (b ≡ true) ⊎ (b ≡ false)
either true = inl refl
either false = inr refl

var_gathered : (doc : NcDoc) (before : List DocVar) (v : DocVar) (after : List DocVar) → Split doc before v after → gathered (header_var doc before v) (file_of doc) ≡ value_bytes (kind_of v.values) (numbers_of v.values)
var_gathered doc before v after s = elim (either (is_record doc v)) [ inl e ↦ record_gathered doc before v after s e | inr e ↦ fixed_gathered doc before v after s e ]

-- the values of a variable are read again
abbrev HasValues : NcDoc → NcVar → DocVar → Type 0
HasValues doc w v = numbers_in w.kind (gathered w (file_of doc)) ≡ numbers_of v.values

kind_same : (doc : NcDoc) (before : List DocVar) (v : DocVar) → (header_var doc before v).kind ≡ kind_of v.values
unfolding placed
kind_same doc before v = refl

var_values : (doc : NcDoc) (before : List DocVar) (v : DocVar) (after : List DocVar) → Split doc before v after → HasTypedValues v → HasValues doc (header_var doc before v) v
var_values doc before v after s typed =
    let kind : (header_var doc before v).kind ≡ kind_of v.values = kind_same doc before v in
    ap (λ (k : NcKind). numbers_in k (gathered (header_var doc before v) (file_of doc))) kind ∙ ap (numbers_in (kind_of v.values)) (var_gathered doc before v after s) ∙ numbers_back (kind_of v.values) (numbers_of v.values) typed

vars_values : (doc : NcDoc) (before vs : List DocVar) → doc.vars ≡ before ++ vs → All (HasItsValues doc) vs → All (HasItsValues doc) doc.vars → All HasTypedValues vs
    → AllZip (HasValues doc) (map (placed doc.records doc.dims (doc_step doc)) (vars_of doc (header_len doc + sum_by (fixed_len doc) before) (header_len doc + fixed_total doc + sum_by (first_len doc) before) vs)) vs
vars_values doc before [] parts have all typed = tt
vars_values doc before (v ∷ vs) parts have all typed =
    let s : Split doc before v vs = record { parts = parts; has = All-head (HasItsValues doc) v vs have; all_have = all } in
    let next : doc.vars ≡ (before ++ v ∷ []) ++ vs = parts ∙ sym (append_assoc before (v ∷ []) vs) in
    let rest = vars_values doc (before ++ v ∷ []) vs next (All-tail (HasItsValues doc) v vs have) all (All-tail HasTypedValues v vs typed) in
    let one : header_len doc + sum_by (fixed_len doc) (before ++ v ∷ []) ≡ header_len doc + sum_by (fixed_len doc) before + fixed_len doc v = omega (arith, sum_by_push (fixed_len doc) before v) in
    let two : header_len doc + fixed_total doc + sum_by (first_len doc) (before ++ v ∷ []) ≡ header_len doc + fixed_total doc + sum_by (first_len doc) before + first_len doc v = omega (arith, sum_by_push (first_len doc) before v) in
    let place = placed doc.records doc.dims (doc_step doc) in (
      var_values doc before v vs s (All-head HasTypedValues v vs typed),
      subst (λ (n : ℕ). AllZip (HasValues doc) (map place (vars_of doc n (header_len doc + fixed_total doc + sum_by (first_len doc) before + first_len doc v) vs)) vs) one
          (subst (λ (n : ℕ). AllZip (HasValues doc) (map place (vars_of doc (header_len doc + sum_by (fixed_len doc) (before ++ v ∷ [])) n vs)) vs) two rest),
    )

pub doc_values : (doc : NcDoc) → IsWellFormed doc → All HasTypedValues doc.vars → AllZip (λ w v. numbers_in w.kind (gathered w (file_of doc)) ≡ numbers_of v.values) (header_of doc).vars doc.vars
doc_values doc h typed =
    let all = has_its_values doc h in
    let begin = header_len doc in
    let records_at = begin + fixed_total doc in
    let whole = vars_values doc [] doc.vars refl all all typed in
    let place : ℕ → NcVar → NcVar = placed doc.records doc.dims in
    let none : begin + sum_by (fixed_len doc) [] ≡ begin = omega arith in
    let none_there : records_at + sum_by (first_len doc) [] ≡ records_at = omega arith in
    subst (λ (s : ℕ). AllZip (HasValues doc) (map (place s) (vars_of doc begin records_at doc.vars)) doc.vars) (sym (step_same doc begin records_at))
    (subst (λ (n : ℕ). AllZip (HasValues doc) (map (place (doc_step doc)) (vars_of doc n records_at doc.vars)) doc.vars) none
    (subst (λ (n : ℕ). AllZip (HasValues doc) (map (place (doc_step doc)) (vars_of doc (begin + sum_by (fixed_len doc) []) n doc.vars)) doc.vars) none_there whole))
