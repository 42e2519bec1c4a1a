-- Rows, number by number.
use Rattle.std.proofs.Common.{◌≡◌, ◌≢◌, ◌<◌, ◌+◌, ◌-◌, ℕ, zero, suc, ℤ, pos, Bool, true, false, cond, if◌then◌else◌, List, [], ◌∷◌, ◌++◌, length, take, refl, ap, sym, ◌∙◌, arith, slice_index_or}
use Rattle.std.specs.Ordering.{int_eq}
use Rattle.std.proofs.lemmas.Bool.Decides.{Decides-int_eq}
use Rattle.std.proofs.lemmas.List.{get_or-take, length-take-le}
use Rattle.std.proofs.Math.Seq.{take-suc}
use Rattle.exodus_mesh.specs.MeshValues.{kept_behind, without_repeats}

pub int_same : (x y : ℤ) → x ≡ y → int_eq x y ≡ true
int_same x y e = (Decides-int_eq x y).1 e

other : (b : Bool) → (b ≡ true → ⊥) → b ≡ false
other true h = absurd (h refl)
other false h = refl

pub int_other : (x y : ℤ) → x ≢ y → int_eq x y ≡ false
int_other x y n = other (int_eq x y) (λ e. n ((Decides-int_eq x y).0 e))

commuted : (s t : Bool) (y x : ℤ) (rest : List ℤ) → cond s (cond t rest (rest ++ x ∷ [])) (y ∷ cond t rest (rest ++ x ∷ [])) ≡ cond t (cond s rest (y ∷ rest)) (cond s rest (y ∷ rest) ++ x ∷ [])
commuted true true y x rest = refl
commuted true false y x rest = refl
commuted false true y x rest = refl
commuted false false y x rest = refl

behind_more : (b : ℤ) (xs : List ℤ) (x : ℤ) → kept_behind b (xs ++ x ∷ []) ≡ (if int_eq (slice_index_or (b ∷ xs) (length xs) (pos 0)) x then kept_behind b xs else (kept_behind b xs ++ x ∷ []))
behind_more b [] x = refl
behind_more b (y ∷ ys) x =
    ap (λ rest. cond (int_eq b y) rest (y ∷ rest)) (behind_more y ys x)
    ∙ commuted (int_eq b y) (int_eq (slice_index_or (y ∷ ys) (length ys) (pos 0)) x) y x (kept_behind y ys)

-- the number at place j + 1 of a row, behind those before it
more : (b : ℤ) (xs : List ℤ) (j : ℕ) → j < length xs → without_repeats (take (suc (suc j)) (b ∷ xs))
    ≡ (if int_eq (slice_index_or (b ∷ xs) j (pos 0)) (slice_index_or xs j (pos 0)) then without_repeats (take (suc j) (b ∷ xs)) else (without_repeats (take (suc j) (b ∷ xs)) ++ slice_index_or xs j (pos 0) ∷ []))
more b xs j below =
    let x = slice_index_or xs j (pos 0) in
    let front : length (take j xs) ≡ j = length-take-le j xs (omega (arith, below)) in
    let last : slice_index_or (b ∷ take j xs) (length (take j xs)) (pos 0) ≡ slice_index_or (b ∷ xs) j (pos 0) = ap (λ k. slice_index_or (b ∷ take j xs) k (pos 0)) front ∙ get_or-take (suc j) (b ∷ xs) j (pos 0) (omega arith) in
    ap (λ l. b ∷ kept_behind b l) (take-suc xs j (pos 0) below)
    ∙ ap (λ l. b ∷ l) (behind_more b (take j xs) x)
    ∙ ap (λ v. b ∷ (if int_eq v x then kept_behind b (take j xs) else (kept_behind b (take j xs) ++ x ∷ []))) last
    ∙ split (int_eq (slice_index_or (b ∷ xs) j (pos 0)) x) b (kept_behind b (take j xs)) x
  where
    split : (t : Bool) (b : ℤ) (l : List ℤ) (x : ℤ) → b ∷ cond t l (l ++ x ∷ []) ≡ cond t (b ∷ l) ((b ∷ l) ++ x ∷ [])
    split true b l x = refl
    split false b l x = refl

first : (row : List ℤ) → 0 < length row → without_repeats (take 1 row) ≡ without_repeats (take 0 row) ++ slice_index_or row 0 (pos 0) ∷ []
first [] h = absurd (omega (arith, h))
first (b ∷ xs) h = refl

later : (row : List ℤ) (j : ℕ) → suc j < length row → without_repeats (take (suc (suc j)) row)
    ≡ (if int_eq (slice_index_or row j (pos 0)) (slice_index_or row (suc j) (pos 0)) then without_repeats (take (suc j) row) else (without_repeats (take (suc j) row) ++ slice_index_or row (suc j) (pos 0) ∷ []))
later [] j h = absurd (omega (arith, h))
later (b ∷ xs) j h = more b xs j (omega (arith, h))

-- a number that equals the one before it is dropped
pub dropped : (row : List ℤ) (k : ℕ) → k < length row → k ≢ 0 → slice_index_or row (k - 1) (pos 0) ≡ slice_index_or row k (pos 0) → without_repeats (take (k + 1) row) ≡ without_repeats (take k row)
dropped row zero below some same = absurd (some refl)
dropped row (suc j) below some same =
    let at : suc j - 1 ≡ j = omega arith in
    let next : suc j + 1 ≡ suc (suc j) = omega arith in
    let e : slice_index_or row j (pos 0) ≡ slice_index_or row (suc j) (pos 0) = ap (λ i. slice_index_or row i (pos 0)) (sym at) ∙ same in
    ap (λ i. without_repeats (take i row)) next ∙ later row j below
    ∙ ap (λ t. cond t (without_repeats (take (suc j) row)) (without_repeats (take (suc j) row) ++ slice_index_or row (suc j) (pos 0) ∷ [])) (int_same (slice_index_or row j (pos 0)) (slice_index_or row (suc j) (pos 0)) e)

-- the first number is kept
pub kept_first : (row : List ℤ) (k : ℕ) → k < length row → k ≡ 0 → without_repeats (take (k + 1) row) ≡ without_repeats (take k row) ++ slice_index_or row k (pos 0) ∷ []
kept_first row zero below none = first row below
kept_first row (suc j) below none = absurd (omega (arith, none))

-- and so is one that differs from the one before it
pub kept : (row : List ℤ) (k : ℕ) → k < length row → slice_index_or row (k - 1) (pos 0) ≢ slice_index_or row k (pos 0) → without_repeats (take (k + 1) row) ≡ without_repeats (take k row) ++ slice_index_or row k (pos 0) ∷ []
kept row zero below differs = first row below
kept row (suc j) below differs =
    let at : suc j - 1 ≡ j = omega arith in
    let next : suc j + 1 ≡ suc (suc j) = omega arith in
    let n : slice_index_or row j (pos 0) ≢ slice_index_or row (suc j) (pos 0) = λ e. differs (ap (λ i. slice_index_or row i (pos 0)) at ∙ e) in
    ap (λ i. without_repeats (take i row)) next ∙ later row j below
    ∙ ap (λ t. cond t (without_repeats (take (suc j) row)) (without_repeats (take (suc j) row) ++ slice_index_or row (suc j) (pos 0) ∷ [])) (int_other (slice_index_or row j (pos 0)) (slice_index_or row (suc j) (pos 0)) n)
