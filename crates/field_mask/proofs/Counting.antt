-- How many parts are 0, part by part.
use Rattle.std.proofs.Common.{◌≡◌, ◌+◌, ◌≤◌, ◌<◌, ℕ, ℤ, pos, Bool, true, false, cond, int_eq, List, [], ◌∷◌, length, get_or, take, ap₂, sym, ◌∙◌, arith}
use Rattle.std.specs.List.{filter}
use Rattle.std.proofs.lemmas.List.{length-take}
use Rattle.std.proofs.lemmas.List.Filters.{length-filter_more}
use Rattle.field_mask.specs.Masked.{masked_count_of}

one_more_at_most : (b : Bool) (x : ℤ) (xs : List ℤ) → length (cond b (x ∷ xs) xs) ≤ length xs + 1
one_more_at_most true x xs = omega arith
one_more_at_most false x xs = omega arith

all_most : (xs : List ℤ) → masked_count_of xs ≤ length xs
all_most [] = omega arith
all_most (x ∷ xs) = omega (arith, one_more_at_most (int_eq x (pos 0)) x (filter (λ (y : ℤ). int_eq y (pos 0)) xs), all_most xs)

pub count_most : (xs : List ℤ) (k : ℕ) → masked_count_of (take k xs) ≤ k
count_most xs k = omega (arith, all_most (take k xs), length-take k xs)

pub count_more : (xs : List ℤ) (k count one : ℕ) → k < length xs → count ≡ masked_count_of (take k xs) → one ≡ cond (int_eq (get_or xs k (pos 0)) (pos 0)) 1 0 → count + one ≡ masked_count_of (take (k + 1) xs)
count_more xs k count one l e f = ap₂ (λ (x y : ℕ). x + y) e f ∙ sym (length-filter_more (λ (y : ℤ). int_eq y (pos 0)) xs k (pos 0) l)
