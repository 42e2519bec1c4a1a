-- A document's file that is cut.
use Rattle.std.proofs.Common.{◌≡◌, ◌⊎◌, inl, inr, ℕ, ◌+◌, ◌-◌, ◌<◌, ◌≤◌, List, ◌++◌, length, take, drop, Option, Some, None, Result, Ok, Err, refl, sym, ap, subst, ◌∙◌, arith}
use Rattle.std.proofs.lemmas.List.{length-take, take-append-drop}
use Rattle.std.proofs.Math.Seq.{take-append-add}
use Rattle.nc_write.specs.declared.NcDoc.{NcDoc}
use Rattle.nc_write.specs.File.{header, header_len, data_of, file_of}
use Rattle.nc_write.specs.Form.{IsWellFormed}
use Rattle.nc_write.proofs.PartLengths.{length_header_any}
use Rattle.nc_format.specs.declared.NcFile.{NcFile}
use Rattle.nc_format.specs.declared.fault.NcFault.{NcFault}
use Rattle.nc_format.specs.declared.fault.NcFault.TheVariants.{NotNetcdf, Truncated}
use Rattle.nc_format.specs.Placing.{placed_vars, with_places, is_outside}
use Rattle.nc_format.specs.Header.{header_read, inside_or, finished, fault_in, first_fault}
use Rattle.nc_format.specs.Written.{fields_of, IsWhole}
use Rattle.nc_format.proofs.Lawful.{no_ok, ok_is}
use Rattle.nc_format.proofs.Whole.{short_is, header_sound, header_whole, header_kept, header_settled, read_value, read_fault}
use Rattle.nc_format.proofs.Spelled.{doc_spelled, file_read}
use Rattle.std.specs.List.{position}
use Rattle.std.proofs.lemmas.List.{length-append}

len_of_front : (b : List ℕ) (c : ℕ) → c < length b → length (take c b) ≡ c
len_of_front b c lt = omega (arith, length-take c b)

fault_is : (b : List ℕ) (len : ℕ) (e : NcFault) → header_read b ≡ Err e → first_fault b len ≡ Some e
unfolding first_fault
fault_is b len e h = ap fault_in (read_fault b len e h)

pub cut_magic : (doc : NcDoc) (c : ℕ) → c < length (file_of doc) → c < 4 → first_fault (take c (file_of doc)) c ≡ Some NotNetcdf
cut_magic doc c lt low =
    let b = take c (file_of doc) in
    fault_is b c NotNetcdf (short_is b (omega (arith, len_of_front (file_of doc) c lt)))

came : {A : Type 0} (r : Result A NcFault) → ((x : A) × (r ≡ Ok x)) ⊎ ((e : NcFault) × (r ≡ Err e))
came (Ok x) = inl (x, refl)
came (Err e) = inr (e, refl)

pub cut_header : (doc : NcDoc) → IsWellFormed doc → (c : ℕ) → c < length (file_of doc) → 4 ≤ c → c < header_len doc → (o : ℕ) × (o ≤ c) × (first_fault (take c (file_of doc)) c ≡ Some (Truncated o))
cut_header doc h c lt low high =
    let b = take c (file_of doc) in
    let more = drop c (file_of doc) in
    let n = len_of_front (file_of doc) c lt in
    let whole : header_read (b ++ more) ≡ Ok (fields_of doc, header_len doc) = ap header_read (take-append-drop c (file_of doc)) ∙ file_read doc h in
    elim (came (header_read b)) [
      | inl k ↦
          let same = ok_is (fields_of doc, header_len doc) k.0 (sym whole ∙ header_kept b more k.0 k.1) in
          let s = header_sound b k.0 k.1 in
          absurd (omega (arith, n, high, ap (λ (x : NcFile × ℕ). x.1) same, s.3, ap length s.2, length-append s.0 s.1))
      | inr k ↦ elim (header_settled b more k.0 (omega (arith, n)) k.1) [
        | inl m ↦ absurd (no_ok (NcFile × ℕ) k.0 (fields_of doc, header_len doc) (sym m ∙ whole))
        | inr m ↦ (m.0, omega (arith, m.2, n), fault_is b c k.0 k.1 ∙ ap (λ (e : NcFault). Some e) m.1)
      ]
    ]

told : (f : NcFile) (o : Option ℕ) → IsWhole (fault_in (inside_or f o))
told f None = inl refl
told f (Some i) = inr (i + 1, refl)

whole_fields : (len : ℕ) (f : NcFile) → IsWhole (fault_in (finished len f))
unfolding finished
whole_fields len f = told (with_places f) (position (is_outside len) (placed_vars f))

pub cut_data : (doc : NcDoc) → IsWellFormed doc → (c : ℕ) → c < length (file_of doc) → header_len doc ≤ c → IsWhole (first_fault (take c (file_of doc)) c)
unfolding first_fault file_of
cut_data doc h c lt low =
    let head = header doc (header_len doc) in
    let len : length head ≡ header_len doc = length_header_any doc (header_len doc) in
    let b = take c (head ++ data_of doc) in
    let front : b ≡ head ++ take (c - length head) (data_of doc) = ap (λ (k : ℕ). take k (head ++ data_of doc)) (let e : c ≡ length head + (c - length head) = omega (arith, len, low) in e) ∙ take-append-add head (data_of doc) (c - length head) in
    let read : header_read b ≡ Ok (fields_of doc, length head) = header_whole b head (take (c - length head) (data_of doc)) (fields_of doc) front (doc_spelled doc h) in
    subst (λ (o : Option NcFault). IsWhole o) (sym (ap fault_in (read_value b c (fields_of doc, length head) read))) (whole_fields c (fields_of doc))
