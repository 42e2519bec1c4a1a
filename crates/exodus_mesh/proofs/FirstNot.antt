-- The first of some numbers that is at fault, and that there is none.
use Rattle.std.proofs.Common.{◌≡◌, ◌<◌, ◌≤◌, ◌+◌, ◌⊎◌, inl, inr, ℕ, zero, suc, Bool, true, false, not, cond, Option, Some, None, refl, ap, sym, subst, ◌∙◌, arith}
use Rattle.std.specs.List.{position_from, range_with_len}
use Rattle.std.proofs.lemmas.Iterator.Adapters.{position_from-zero}
use Rattle.exodus_mesh.specs.FirstNot.{first_not}

-- the first number that is not good, of so many from i on
bad_from : (good : ℕ → Bool) (i n r : ℕ) → r < n → ((k : ℕ) → k < r → good (i + k) ≡ true) → good (i + r) ≡ false → position_from (λ k. not (good k)) i (range_with_len i n) ≡ Some (i + r)
bad_from good i zero r below before bad = absurd (omega (arith, below))
bad_from good i (suc m) zero below before bad =
    let at : i + 0 ≡ i = omega arith in
    let here : good i ≡ false = subst (λ j. good j ≡ false) at bad in
    ap (λ b. cond (not b) (Some i) (position_from (λ k. not (good k)) (i + 1) (range_with_len (i + 1) m))) here ∙ ap (λ j. Some j) (sym at)
bad_from good i (suc m) (suc q) below before bad =
    let at : i + 0 ≡ i = omega arith in
    let here : good i ≡ true = subst (λ j. good j ≡ true) at (before 0 (omega arith)) in
    let behind : i + suc q ≡ i + 1 + q = omega arith in
    ap (λ b. cond (not b) (Some i) (position_from (λ k. not (good k)) (i + 1) (range_with_len (i + 1) m))) here
    ∙ bad_from good (i + 1) m q (omega (arith, below)) (λ k le. subst (λ j. good j ≡ true) (next k) (before (suc k) (omega (arith, le)))) (subst (λ j. good j ≡ false) behind bad)
    ∙ ap (λ j. Some j) (sym behind)
  where
    next : (k : ℕ) → i + suc k ≡ i + 1 + k
    next k = omega arith

none_from : (good : ℕ → Bool) (i n : ℕ) → ((k : ℕ) → k < n → good (i + k) ≡ true) → position_from (λ k. not (good k)) i (range_with_len i n) ≡ None
none_from good i zero all = refl
none_from good i (suc m) all =
    let at : i + 0 ≡ i = omega arith in
    let here : good i ≡ true = subst (λ j. good j ≡ true) at (all 0 (omega arith)) in
    ap (λ b. cond (not b) (Some i) (position_from (λ k. not (good k)) (i + 1) (range_with_len (i + 1) m))) here
    ∙ none_from good (i + 1) m (λ k below. subst (λ j. good j ≡ true) (next k) (all (suc k) (omega (arith, below))))
  where
    next : (k : ℕ) → i + suc k ≡ i + 1 + k
    next k = omega arith

first_is_good : (b : Bool) (i : ℕ) (rest : Option ℕ) → cond (not b) (Some i) rest ≡ None → (b ≡ true) × (rest ≡ None)
first_is_good true i rest h = (refl, h)
first_is_good false i rest h = absurd cc

all_from : (good : ℕ → Bool) (i n : ℕ) → position_from (λ k. not (good k)) i (range_with_len i n) ≡ None → (k : ℕ) → k < n → good (i + k) ≡ true
all_from good i zero none k below = absurd (omega (arith, below))
all_from good i (suc m) none zero below =
    let at : i ≡ i + 0 = omega arith in
    subst (λ j. good j ≡ true) at (first_is_good (good i) i (position_from (λ k. not (good k)) (i + 1) (range_with_len (i + 1) m)) none).0
all_from good i (suc m) none (suc k) below =
    let rest = (first_is_good (good i) i (position_from (λ k. not (good k)) (i + 1) (range_with_len (i + 1) m)) none).1 in
    let next : i + 1 + k ≡ i + suc k = omega arith in
    subst (λ j. good j ≡ true) next (all_from good (i + 1) m rest k (omega (arith, below)))

from_none : (k : ℕ) → 0 + k ≡ k
from_none k = omega arith

-- the numbers up to one are good
abbrev pub AllGood : (ℕ → Bool) → ℕ → Type 0
AllGood good n = (k : ℕ) → k < n → good k ≡ true

pub one_more_good : (good : ℕ → Bool) (r : ℕ) → AllGood good r → good r ≡ true → AllGood good (r + 1)
one_more_good good r before here k below =
    elim (less_or_same k r (omega (arith, below))) [
      | inl less ↦ before k less
      | inr same ↦ subst (λ j. good j ≡ true) (sym same) here
    ]
  where
    less_or_same : (k r : ℕ) → k ≤ r → (k < r) ⊎ (k ≡ r)
    less_or_same k r le = grind arith

pub first_is : (good : ℕ → Bool) (n r : ℕ) → r < n → AllGood good r → good r ≡ false → first_not good n ≡ Some r
first_is good n r below before bad =
    position_from-zero (λ k. not (good k)) (range_with_len 0 n)
    ∙ bad_from good 0 n r below (λ k le. subst (λ j. good j ≡ true) (sym (from_none k)) (before k le)) (subst (λ j. good j ≡ false) (sym (from_none r)) bad)
    ∙ ap (λ j. Some j) (from_none r)

pub none_is : (good : ℕ → Bool) (n : ℕ) → AllGood good n → first_not good n ≡ None
none_is good n all = position_from-zero (λ k. not (good k)) (range_with_len 0 n) ∙ none_from good 0 n (λ k le. subst (λ j. good j ≡ true) (sym (from_none k)) (all k le))

-- where none is at fault all are good
pub all_good : (good : ℕ → Bool) (n : ℕ) → first_not good n ≡ None → AllGood good n
all_good good n none k below = subst (λ j. good j ≡ true) (from_none k) (all_from good 0 n (sym (position_from-zero (λ k. not (good k)) (range_with_len 0 n)) ∙ none) k below)
