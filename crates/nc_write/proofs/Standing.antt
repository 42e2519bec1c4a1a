-- Where the values of a variable stand in the file.
use Rattle.std.proofs.Common.{◌≡◌, ◌<◌, ◌+◌, ◌*◌, ℕ, zero, suc, List, [], ◌∷◌, ◌++◌, All, length, drop, sym, ap, ◌∙◌, append_assoc, length-append, arith}
use Rattle.std.proofs.lemmas.List.{drop_at}
use Rattle.std.proofs.lemmas.List.Elements.{All-nil, All-cons, All-head, All-tail, All-same}
use Rattle.std.proofs.lemmas.Grind.{flat_map-append}
use Rattle.std.specs.List.{flat_map, sum_by, range_with_len}
use Rattle.nc_write.specs.declared.NcDoc.{NcDoc}
use Rattle.nc_write.specs.declared.DocVar.{DocVar}
use Rattle.nc_write.specs.File.{fixed_len, record_len, fixed_total, doc_step, fixed_data, record_data, record_of, data_of, header, header_len, file_of}
use Rattle.nc_write.specs.Form.{HasItsValues}
use Rattle.nc_write.proofs.PartLengths.{length_header_any}
use Rattle.nc_write.proofs.Places.{length_fixed_all, length_record_all, length_records}

All-front : {X : Type 0} (P : X → Type 0) (xs ys : List X) → All P (xs ++ ys) → All P xs
All-front P [] ys h = All-nil P
All-front P (x ∷ xs) ys h = All-cons P x xs (All-head P x (xs ++ ys) h) (All-front P xs ys (All-tail P x (xs ++ ys) h))

-- the variables before one have their values
front_has : (doc : NcDoc) (front back : List DocVar) (v : DocVar) → doc.vars ≡ front ++ v ∷ back → All (HasItsValues doc) doc.vars → All (HasItsValues doc) front
front_has doc front back v is all = All-front (HasItsValues doc) front (v ∷ back) (All-same (HasItsValues doc) (front ++ v ∷ back) doc.vars (sym is) all)

-- what stands at the begin of a variable without the record dimension, and what follows
pub fixed_stands : (doc : NcDoc) (front back : List DocVar) (v : DocVar) → doc.vars ≡ front ++ v ∷ back → All (HasItsValues doc) doc.vars
    → (rest : List ℕ) × (drop (header_len doc + sum_by (fixed_len doc) front) (file_of doc) ≡ fixed_data doc v ++ rest)
unfolding file_of data_of
fixed_stands doc front back v is all =
    let head = header doc (header_len doc) in
    let before = flat_map (fixed_data doc) front in
    let behind = flat_map (fixed_data doc) back in
    let records = flat_map (record_of doc) (range_with_len 0 doc.records) in
    let split : flat_map (fixed_data doc) doc.vars ≡ before ++ (fixed_data doc v ++ behind) = ap (flat_map (fixed_data doc)) is ∙ flat_map-append (fixed_data doc) front (v ∷ back) in
    let whole : file_of doc ≡ (head ++ before) ++ (fixed_data doc v ++ (behind ++ records)) = ap (λ d. head ++ (d ++ records)) split ∙ simp append_assoc in
    let len : length (head ++ before) ≡ header_len doc + sum_by (fixed_len doc) front = omega (arith, length-append head before, length_header_any doc (header_len doc), length_fixed_all doc front (front_has doc front back v is all)) in
    (behind ++ records, ap (drop (header_len doc + sum_by (fixed_len doc) front)) whole ∙ drop_at (head ++ before) (fixed_data doc v ++ (behind ++ records)) (header_len doc + sum_by (fixed_len doc) front) len)

range_split : (a r n j : ℕ) → r < n → a + r ≡ j → (rest : List ℕ) × (range_with_len a n ≡ range_with_len a r ++ j ∷ rest)
range_split a zero zero j lt e = absurd (omega arith)
range_split a (suc r) zero j lt e = absurd (omega arith)
range_split a zero (suc m) j lt e = (range_with_len (a + 1) m, ap (λ i. i ∷ range_with_len (a + 1) m) (omega arith))
range_split a (suc r) (suc m) j lt e =
    let split = range_split (a + 1) r m j (omega arith) (omega arith) in
    (split.0, ap (λ l. a ∷ l) split.1)

-- what stands a number of steps behind the begin of a record variable, and what follows
pub record_stands : (doc : NcDoc) (front back : List DocVar) (v : DocVar) → doc.vars ≡ front ++ v ∷ back → All (HasItsValues doc) doc.vars
    → (r : ℕ) → r < doc.records → (rest : List ℕ) × (drop (header_len doc + fixed_total doc + sum_by (record_len doc) front + r * doc_step doc) (file_of doc) ≡ record_data doc r v ++ rest)
unfolding file_of data_of record_of
record_stands doc front back v is all r lt =
    let place = header_len doc + fixed_total doc + sum_by (record_len doc) front + r * doc_step doc in
    let head = header doc (header_len doc) in
    let fixed = flat_map (fixed_data doc) doc.vars in
    let earlier = flat_map (record_of doc) (range_with_len 0 r) in
    let before = flat_map (record_data doc r) front in
    let behind = flat_map (record_data doc r) back in
    let range = range_split 0 r doc.records r lt (omega arith) in
    let later = flat_map (record_of doc) range.0 in
    let here : record_of doc r ≡ before ++ (record_data doc r v ++ behind) = ap (flat_map (record_data doc r)) is ∙ flat_map-append (record_data doc r) front (v ∷ back) in
    let records : flat_map (record_of doc) (range_with_len 0 doc.records) ≡ earlier ++ (record_of doc r ++ later) = ap (flat_map (record_of doc)) range.1 ∙ flat_map-append (record_of doc) (range_with_len 0 r) (r ∷ range.0) in
    let spread : flat_map (record_of doc) (range_with_len 0 doc.records) ≡ earlier ++ ((before ++ (record_data doc r v ++ behind)) ++ later) = records ∙ ap (λ d. earlier ++ (d ++ later)) here in
    let whole : file_of doc ≡ (head ++ fixed ++ earlier ++ before) ++ (record_data doc r v ++ (behind ++ later)) = ap (λ d. head ++ (fixed ++ d)) spread ∙ simp append_assoc in
    let len : length (head ++ fixed ++ earlier ++ before) ≡ place =
    omega (
      arith,
      length-append (head ++ fixed ++ earlier) before,
      length-append (head ++ fixed) earlier,
      length-append head fixed,
      length_header_any doc (header_len doc),
      length_fixed_all doc doc.vars all,
      length_records doc all r (omega arith),
      length_record_all doc r lt front (front_has doc front back v is all),
    ) in
    (behind ++ later, ap (drop place) whole ∙ drop_at (head ++ fixed ++ earlier ++ before) (record_data doc r v ++ (behind ++ later)) place len)
