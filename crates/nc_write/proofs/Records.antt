-- Records: how many values one has, and the records one after another.
use Rattle.std.proofs.Common.{◌≡◌, ◌<◌, ◌+◌, ◌*◌, ◌/◌, ℕ, zero, suc, List, ◌++◌, true, if◌then◌else◌, length, sym, ap, ◌∙◌, append_assoc, append-nil, add-one, arith}
use Rattle.std.proofs.Math.Nat.{mul-div_cancel, mul_comm}
use Rattle.std.specs.List.{flat_map, range_with_len}
use Rattle.nc_write.specs.declared.NcDoc.{NcDoc}
use Rattle.nc_write.specs.declared.DocVar.{DocVar}
use Rattle.nc_write.specs.Extents.{lens_of, piece_count}
use Rattle.nc_write.specs.File.{numbers_of, is_record, pieces_of}
use Rattle.nc_write.specs.Form.{HasItsValues}

flat_from : {A : Type 0} (f : ℕ → List A) (a k j : ℕ) → a + k ≡ j → flat_map f (range_with_len a (suc k)) ≡ flat_map f (range_with_len a k) ++ f j
flat_from f a zero j e = append-nil (f a) ∙ ap f (omega arith)
flat_from f a (suc k) j e = ap (λ l. f a ++ l) (flat_from f (a + 1) k j (omega arith)) ∙ sym (append_assoc (f a) (flat_map f (range_with_len (a + 1) k)) (f j))

pub flat_range_more : {A : Type 0} (f : ℕ → List A) (k : ℕ) → flat_map f (range_with_len 0 (k + 1)) ≡ flat_map f (range_with_len 0 k) ++ f k
flat_range_more f k = ap (λ n. flat_map f (range_with_len 0 n)) (add-one k) ∙ flat_from f 0 k k (omega arith)

-- one record more behind what was there
pub flat_behind : {A : Type 0} (out : List A) (f : ℕ → List A) (k : ℕ) → (out ++ flat_map f (range_with_len 0 k)) ++ f k ≡ out ++ flat_map f (range_with_len 0 (k + 1))
flat_behind out f k = append_assoc out (flat_map f (range_with_len 0 k)) (f k) ∙ ap (λ l. out ++ l) (sym (flat_range_more f k))

-- a record variable has as many values in each record
pub values_of_record : (doc : NcDoc) (v : DocVar) → is_record doc v ≡ true → 0 < doc.records → HasItsValues doc v → length (numbers_of v.values) / doc.records ≡ piece_count (lens_of doc.dims) v.dims
values_of_record doc v is some h =
    let pieces : pieces_of doc v ≡ doc.records = ap (λ b. if b then doc.records else 1) is in
    let n : length (numbers_of v.values) ≡ piece_count (lens_of doc.dims) v.dims * doc.records = h ∙ ap (λ k. k * piece_count (lens_of doc.dims) v.dims) pieces ∙ mul_comm doc.records (piece_count (lens_of doc.dims) v.dims) in
    ap (λ k. k / doc.records) n ∙ mul-div_cancel (piece_count (lens_of doc.dims) v.dims) some
