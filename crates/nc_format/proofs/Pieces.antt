-- The pieces of a header's variables.
use Rattle.std.proofs.Common.{◌≡◌, inl, inr, ℕ, zero, suc, ◌+◌, ◌-◌, ◌*◌, ◌%◌, ◌≤◌, Bool, true, false, not, ltb, ◌==◌, ◌&&◌, if◌then◌else◌, List, [], ◌∷◌, length, map, get_or, drop, add-one, All, refl, sym, ap, subst, ◌∙◌, arith}
use Rattle.std.proofs.Math.Nat.{mul-le-mul_right, mul-mod_right, suc-mul, zero-mod}
use Rattle.std.proofs.lemmas.Bool.{cases_lt, lt-ltb}
use Rattle.std.proofs.lemmas.List.Elements.{All-map}
use Rattle.std.proofs.lemmas.List.Sums.{sum_by-cons}
use Rattle.std.proofs.lemmas.List.{length-append, length-drop, length-take-le}
use Rattle.std.specs.List.{flat_map, range_with_len, count_by, sum_by}
use Rattle.nc_write.proofs.Records.{flat_range_more}
use Rattle.nc_write.specs.Kinds.{size_of}
use Rattle.nc_write.specs.Extents.{lens_of, piece_count, piece_len, share_of, has_several}
use Rattle.nc_write.specs.declared.DocDim.{DocDim as NcDim}
use Rattle.nc_format.specs.declared.NcVar.{NcVar}
use Rattle.nc_format.specs.declared.NcFile.{NcFile}
use Rattle.nc_format.specs.Placing.{is_record_var, var_piece_len, parts_of, own_step, IsPlaced, placed, placed_vars, with_places, step_from, end_of, is_outside}
use Rattle.nc_format.specs.Header.{IsHeader}
use Rattle.nc_format.specs.Numbers.{HasPieces, HasWholePieces, piece_of}

-- where the last piece ends inside, each piece does
pub inside_has_pieces : (len : ℕ) (v : NcVar) → is_outside len v ≡ false → HasPieces len v
inside_has_pieces len v e r lt =
    let some : ltb 0 v.parts ≡ true = lt-ltb _ _ (omega arith) in
    let last : end_of v ≤ len = elim (cases_lt len (end_of v)) [
      | inl past ↦ absurd (let t : true ≡ false = sym (ap (λ (b : Bool). b && true) some) ∙ sym (ap (λ (b : Bool). ltb 0 v.parts && b) (lt-ltb len (end_of v) past)) ∙ e in cc)
      | inr le ↦ le
    ] in
    let before : r * v.step ≤ (v.parts - 1) * v.step = mul-le-mul_right v.step (omega arith) in
    omega (arith, last, before)

whole_values : (size count : ℕ) (none : Bool) → (if none then 0 else size * count) % size ≡ 0
whole_values size count true = zero-mod size
whole_values size count false = mul-mod_right size count

placed_whole : (records : ℕ) (dims : List NcDim) (step : ℕ) (v : NcVar) → (placed records dims step v).part % size_of (placed records dims step v).kind ≡ 0
unfolding placed piece_len
placed_whole records dims step v = whole_values (size_of v.kind) (piece_count (lens_of dims) v.dims) (parts_of records dims v == 0)

-- what is gathered, by its length
pub gathered_len : (v : NcVar) (file : List ℕ) (n : ℕ) → HasPieces (length file) v → n ≤ v.parts → length (flat_map (piece_of v file) (range_with_len 0 n)) ≡ n * v.part
gathered_len v file zero h le = omega arith
gathered_len v file (suc n) h le =
    let at = v.begin + n * v.step in
    let fits : at + v.part ≤ length file = h n (omega arith) in
    let one : length (piece_of v file n) ≡ v.part = length-take-le (at + v.part - at) (drop at file) (omega (arith, length-drop at file)) ∙ omega arith in
    ap (λ k. length (flat_map (piece_of v file) (range_with_len 0 k))) (sym (add-one n))
    ∙ ap length (flat_range_more (piece_of v file) n)
    ∙ omega (arith, length-append (flat_map (piece_of v file) (range_with_len 0 n)) (piece_of v file n), gathered_len v file n h (omega arith), one, suc-mul n v.part)

pub header_has_pieces : (b : List ℕ) (len : ℕ) (f : NcFile) → IsHeader b len f → All (HasWholePieces len) f.vars
header_has_pieces b len f h =
    let g = h.fields in
    let place = placed g.records g.dims (step_from g.dims g.vars) in
    let whole : All (λ v. v.part % size_of v.kind ≡ 0) (placed_vars g) = All-map (λ (v : NcVar). v.part % size_of v.kind ≡ 0) place g.vars (λ k d lt. placed_whole g.records g.dims (step_from g.dims g.vars) (get_or g.vars k d)) in
    let here : All (λ v. v.part % size_of v.kind ≡ 0) f.vars = subst (λ (x : NcFile). All (λ v. v.part % size_of v.kind ≡ 0) x.vars) (sym h.placed) whole in
    λ k d lt. record { inside = inside_has_pieces len (get_or f.vars k d) (h.inside k d lt); whole = here k d lt }

sum_kept : (f : NcVar → ℕ) (records : ℕ) (dims : List NcDim) (step : ℕ) → ((v : NcVar) → f (placed records dims step v) ≡ f v) → (vars : List NcVar) → sum_by f (map (placed records dims step) vars) ≡ sum_by f vars
sum_kept f records dims step h [] = refl
sum_kept f records dims step h (v ∷ vs) =
    omega (arith, sum_by-cons f (placed records dims step v) (map (placed records dims step) vs), sum_by-cons f v vs, h v, sum_kept f records dims step h vs)

record_kept : (records : ℕ) (dims : List NcDim) (step : ℕ) (v : NcVar) → is_record_var dims (placed records dims step v) ≡ is_record_var dims v
unfolding placed
record_kept records dims step v = refl

share_kept : (records : ℕ) (dims : List NcDim) (step : ℕ) (several : Bool) (v : NcVar)
    → share_of several (is_record_var dims (placed records dims step v)) (var_piece_len dims (placed records dims step v)) ≡ share_of several (is_record_var dims v) (var_piece_len dims v)
unfolding placed
share_kept records dims step several v = refl

step_kept : (records : ℕ) (dims : List NcDim) (step : ℕ) (vars : List NcVar) → step_from dims (map (placed records dims step) vars) ≡ step_from dims vars
unfolding has_several
step_kept records dims step vars =
    let placed_all = map (placed records dims step) vars in
    let share : Bool → NcVar → ℕ = λ several v. share_of several (is_record_var dims v) (var_piece_len dims v) in
    let counted : count_by (is_record_var dims) placed_all ≡ count_by (is_record_var dims) vars = sum_kept (λ (v : NcVar). if is_record_var dims v then 1 else 0) records dims step (λ v. ap (λ (b : Bool). if b then 1 else 0) (record_kept records dims step v)) vars in
    ap (λ (n : ℕ). sum_by (share (not (n == 1))) placed_all) counted
    ∙ sum_kept (share (not (count_by (is_record_var dims) vars == 1))) records dims step (share_kept records dims step (not (count_by (is_record_var dims) vars == 1))) vars

one_placed : (g : NcFile) (v : NcVar) → IsPlaced (with_places g) (placed g.records g.dims (step_from g.dims g.vars) v)
unfolding placed piece_len
one_placed g v = record { parts = refl; part = refl; step = ap (own_step (parts_of g.records g.dims v)) (sym (step_kept g.records g.dims (step_from g.dims g.vars) g.vars)) }

placed_file : (g : NcFile) → All (IsPlaced (with_places g)) (placed_vars g)
placed_file g =
    let step = step_from g.dims g.vars in
    All-map (IsPlaced (with_places g)) (placed g.records g.dims step) g.vars (λ k d lt. one_placed g (get_or g.vars k d))

-- where the values stand is told by the dimensions of the header
pub header_is_placed : (b : List ℕ) (len : ℕ) (f : NcFile) → IsHeader b len f → All (IsPlaced f) f.vars
header_is_placed b len f h = subst (λ (x : NcFile). All (IsPlaced x) x.vars) (sym h.placed) (placed_file h.fields)
