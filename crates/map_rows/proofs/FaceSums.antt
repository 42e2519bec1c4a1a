-- Sums of any function over the rows of each face, row by row.
use Rattle.std.proofs.Common.{◌≡◌, ◌≢◌, ℕ, ◌+◌, ◌-◌, ◌*◌, ◌<◌, ◌≤◌, inl, inr, ℤ, pos, ◌+ℤ◌, ◌≤ℤ◌, Bool, true, false, cond, eqb, List, [], ◌∷◌, ◌++◌, length, map, get_or, set, take, replicate, unsigned_abs, ap, sym, ◌∙◌, refl, arith, eq-eqb}
use Rattle.std.specs.List.{All}
use Rattle.std.proofs.lemmas.Int.{ints}
use Rattle.std.proofs.lemmas.Bool.Decides.{nat_tests}
use Rattle.std.proofs.lemmas.List.{ext_get_or, length-set, get_or-set_same, get_or-set_other, length-replicate, get_or-replicate, take_more}
use Rattle.std.proofs.lemmas.List.Elements.{All-head, All-tail}
use Rattle.std.proofs.lemmas.List.FromFn.{length-map-range_with_len, get_or-map-range_with_len}
use Rattle.vec_exact.proofs.Cycles.{below_same_above}
use Rattle.map_rows.specs.declared.rows.MapRow.{MapRow}
use Rattle.map_rows.specs.Maps.{total, measure_of, rows_of, sum_at, sums_of, HasMeasure}

total_one_more : (f : MapRow → ℤ) (b : Bool) (r : MapRow) (rows : List MapRow) → total (map f (cond b (r ∷ rows) rows)) ≡ cond b (f r) (pos 0) +ℤ total (map f rows)
unfolding total
total_one_more f true r rows = refl
total_one_more f false r rows = omega (arith, ints)

-- one row more at the head, and at the end
pub sum_at-cons : (face_of : MapRow → ℕ) (f : MapRow → ℤ) (r : MapRow) (rows : List MapRow) (i : ℕ) → sum_at face_of f (r ∷ rows) i ≡ cond (eqb (face_of r) i) (f r) (pos 0) +ℤ sum_at face_of f rows i
sum_at-cons face_of f r rows i = total_one_more f (eqb (face_of r) i) r (rows_of face_of rows i)

pub sum_at-none : (face_of : MapRow → ℕ) (f : MapRow → ℤ) (i : ℕ) → sum_at face_of f [] i ≡ pos 0
unfolding total
sum_at-none face_of f i = refl

pub sum_at-push : (face_of : MapRow → ℕ) (f : MapRow → ℤ) (rows : List MapRow) (r : MapRow) (i : ℕ) → sum_at face_of f (rows ++ r ∷ []) i ≡ sum_at face_of f rows i +ℤ cond (eqb (face_of r) i) (f r) (pos 0)
sum_at-push face_of f [] r i = omega (arith, ints, sum_at-cons face_of f r [] i, sum_at-none face_of f i)
sum_at-push face_of f (q ∷ rows) r i = omega (arith, ints, sum_at-push face_of f rows r i, sum_at-cons face_of f q rows i, sum_at-cons face_of f q (rows ++ r ∷ []) i)

pub differ : (a b : ℕ) → a ≢ b → eqb a b ≡ false
differ a b n = grind (arith, nat_tests)

pub length-sums_of : (face_of : MapRow → ℕ) (f : MapRow → ℤ) (n : ℕ) (rows : List MapRow) → length (sums_of face_of f n rows) ≡ n
unfolding sums_of
length-sums_of face_of f n rows = length-map-range_with_len (sum_at face_of f rows) 1 n

pub get_or-sums_of : (face_of : MapRow → ℕ) (f : MapRow → ℤ) (n : ℕ) (rows : List MapRow) (k i : ℕ) (d : ℤ) → k < n → 1 + k ≡ i → get_or (sums_of face_of f n rows) k d ≡ sum_at face_of f rows i
unfolding sums_of
get_or-sums_of face_of f n rows k i d l e = get_or-map-range_with_len (sum_at face_of f rows) 1 n k i d l e

sum_push_same : (face_of : MapRow → ℕ) (f : MapRow → ℤ) (rows : List MapRow) (r : MapRow) (i : ℕ) → face_of r ≡ i → sum_at face_of f (rows ++ r ∷ []) i ≡ sum_at face_of f rows i +ℤ f r
sum_push_same face_of f rows r i e =
    sum_at-push face_of f rows r i ∙ ap (λ (b : Bool). sum_at face_of f rows i +ℤ cond b (f r) (pos 0)) (eq-eqb (face_of r) i e)

sum_push_other : (face_of : MapRow → ℕ) (f : MapRow → ℤ) (rows : List MapRow) (r : MapRow) (i : ℕ) → face_of r ≢ i → sum_at face_of f (rows ++ r ∷ []) i ≡ sum_at face_of f rows i
sum_push_other face_of f rows r i n =
    let none : sum_at face_of f rows i +ℤ pos 0 ≡ sum_at face_of f rows i = omega (arith, ints) in
    sum_at-push face_of f rows r i ∙ ap (λ (b : Bool). sum_at face_of f rows i +ℤ cond b (f r) (pos 0)) (differ (face_of r) i n) ∙ none

-- one row more adds its part at its face
pub sums_push : (face_of : MapRow → ℕ) (f : MapRow → ℤ) (n : ℕ) (rows : List MapRow) (r : MapRow) (sums new : List ℤ) → sums ≡ sums_of face_of f n rows → 1 ≤ face_of r → face_of r ≤ n
    → new ≡ set sums (face_of r - 1) (get_or sums (face_of r - 1) (pos 0) +ℤ f r) → new ≡ sums_of face_of f n (rows ++ r ∷ [])
sums_push face_of f n rows r sums new e least most step =
    let p = face_of r - 1 in
    let before : length sums ≡ n = ap (length {A = ℤ}) e ∙ length-sums_of face_of f n rows in
    let size : length new ≡ n = ap (length {A = ℤ}) step ∙ length-set sums p (get_or sums p (pos 0) +ℤ f r) ∙ before in
    let place : 1 + p ≡ face_of r = omega arith in
    let within : p < length sums = omega arith in
    let same : get_or new p (pos 0) ≡ sum_at face_of f (rows ++ r ∷ []) (face_of r) =
    ap (λ (xs : List ℤ). get_or xs p (pos 0)) step ∙ get_or-set_same sums p (get_or sums p (pos 0) +ℤ f r) (pos 0) within
    ∙ ap (λ (x : ℤ). x +ℤ f r) (ap (λ (xs : List ℤ). get_or xs p (pos 0)) e ∙ get_or-sums_of face_of f n rows p (face_of r) (pos 0) (omega arith) place)
    ∙ sym (sum_push_same face_of f rows r (face_of r) refl)
    in
    let right : (k : ℕ) → k < n → k ≢ p → get_or new k (pos 0) ≡ get_or (sums_of face_of f n (rows ++ r ∷ [])) k (pos 0) =
    λ k l ne.
    ap (λ (xs : List ℤ). get_or xs k (pos 0)) step ∙ get_or-set_other sums p k (get_or sums p (pos 0) +ℤ f r) (pos 0) ne
    ∙ (ap (λ (xs : List ℤ). get_or xs k (pos 0)) e ∙ get_or-sums_of face_of f n rows k (1 + k) (pos 0) l refl) ∙ sym (sum_push_other face_of f rows r (1 + k) (omega arith))
    ∙ sym (get_or-sums_of face_of f n (rows ++ r ∷ []) k (1 + k) (pos 0) l refl)
    in
    ext_get_or (pos 0) new (sums_of face_of f n (rows ++ r ∷ [])) (size ∙ sym (length-sums_of face_of f n (rows ++ r ∷ [])))
    (λ k l. elim (below_same_above k p) [
      | inl b ↦ right k (omega arith) (omega arith)
      | inr (inl q) ↦
          ap (λ (j : ℕ). get_or new j (pos 0)) q ∙ same ∙ sym (get_or-sums_of face_of f n (rows ++ r ∷ []) k (face_of r) (pos 0) (omega arith) (omega arith))
      | inr (inr b) ↦ right k (omega arith) (omega arith)
    ])

-- the sums after the row at place k
pub sums_more : (face_of : MapRow → ℕ) (f : MapRow → ℤ) (n : ℕ) (rows : List MapRow) (k : ℕ) (d : MapRow) (x : ℤ) (sums new : List ℤ) → sums ≡ sums_of face_of f n (take k rows)
    → k < length rows → x ≡ f (get_or rows k d) → 1 ≤ face_of (get_or rows k d) → face_of (get_or rows k d) ≤ n
    → new ≡ set sums (face_of (get_or rows k d) - 1) (get_or sums (face_of (get_or rows k d) - 1) (pos 0) +ℤ x) → new ≡ sums_of face_of f n (take (k + 1) rows)
sums_more face_of f n rows k d x sums new e within same least most step =
    let r = get_or rows k d in
    let p = face_of r - 1 in
    sums_push face_of f n (take k rows) r sums new e least most (step ∙ ap (λ (y : ℤ). set sums p (get_or sums p (pos 0) +ℤ y)) same)
    ∙ ap (sums_of face_of f n) (sym (take_more rows k d within))

-- no row, no sum
pub no_sums : (face_of : MapRow → ℕ) (f : MapRow → ℤ) (n : ℕ) (sums : List ℤ) → sums ≡ replicate n (pos 0) → sums ≡ sums_of face_of f n []
no_sums face_of f n sums e =
    ext_get_or (pos 0) sums (sums_of face_of f n []) (ap (length {A = ℤ}) e ∙ length-replicate n (pos 0) ∙ sym (length-sums_of face_of f n []))
    (λ k l.
    let within : k < n = omega (arith, ap (length {A = ℤ}) e, length-replicate n (pos 0)) in
    ap (λ (xs : List ℤ). get_or xs k (pos 0)) e ∙ get_or-replicate n k (pos 0) (pos 0) within ∙ sym (sum_at-none face_of f (1 + k)) ∙ sym (get_or-sums_of face_of f n [] k (1 + k) (pos 0) within refl))

-- a sum is at most the greatest part for each row
abbrev pub IsAtMost : ℕ → (MapRow → ℤ) → MapRow → Type 0
IsAtMost bound f r = unsigned_abs (f r) ≤ bound

part_size : (b : Bool) (x : ℤ) (bound : ℕ) → unsigned_abs x ≤ bound → unsigned_abs (cond b x (pos 0)) ≤ bound
part_size true x bound h = h
part_size false x bound h = omega (arith, ints)

pub sum_size : (face_of : MapRow → ℕ) (f : MapRow → ℤ) (bound i : ℕ) (rows : List MapRow) → All (IsAtMost bound f) rows → unsigned_abs (sum_at face_of f rows i) ≤ bound * length rows
sum_size face_of f bound i [] h = omega (arith, ints, sum_at-none face_of f i)
sum_size face_of f bound i (r ∷ rows) h =
    omega (
      arith,
      ints,
      sum_at-cons face_of f r rows i,
      part_size (eqb (face_of r) i) (f r) bound (All-head (IsAtMost bound f) r rows h),
      sum_size face_of f bound i rows (All-tail (IsAtMost bound f) r rows h),
    )

measure_part : (b : Bool) (r : MapRow) → HasMeasure r → (pos 0 ≤ℤ cond b r.s (pos 0)) × (cond b r.s (pos 0) ≤ℤ pos 1099511627775)
measure_part true r h = (omega (arith, ints, h.0), h.1)
measure_part false r h = (omega (arith, ints), omega (arith, ints))

-- an area is at most the greatest measure for each row
pub area_bounds : (face_of : MapRow → ℕ) (rows : List MapRow) (i : ℕ) → All HasMeasure rows
    → (pos 0 ≤ℤ sum_at face_of measure_of rows i) × (sum_at face_of measure_of rows i ≤ℤ pos (1099511627775 * length rows))
area_bounds face_of [] i h = (omega (arith, ints, sum_at-none face_of measure_of i), omega (arith, ints, sum_at-none face_of measure_of i))
area_bounds face_of (r ∷ rows) i h =
    let part = measure_part (eqb (face_of r) i) r (All-head HasMeasure r rows h) in
    let rest = area_bounds face_of rows i (All-tail HasMeasure r rows h) in
    let sum = sum_at-cons face_of measure_of r rows i in
    (omega (arith, ints, sum, part.0, rest.0), omega (arith, ints, sum, part.1, rest.1))
