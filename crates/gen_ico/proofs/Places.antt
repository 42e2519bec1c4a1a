-- What a search for the first place in a face answers.
use Rattle.std.proofs.Common.{◌≡◌, ◌∙◌, ◌+◌, ◌≤◌, ◌<◌, ℕ, ℤ, pos, suc, Bool, true, false, cond, not, ◌||◌, List, [], ◌∷◌, length, get_or, ap, subst, arith}
use Rattle.std.specs.List.{range_with_len}
use Rattle.std.specs.Ordering.{int_eq}
use Rattle.std.proofs.lemmas.List.FromFn.{get_or-range_with_len, length-range_with_len}
use Rattle.std.proofs.lemmas.List.Sums.{position_or_len_is}
use Rattle.gen_ico.specs.Dual.{has_at, holds, place_followed, place_of}

pub found_followed : (p h : ℤ) (face : List ℤ) (s : ℕ) → s ≤ length face → ((k : ℕ) → k < s → has_at p h face k ≡ false) → (s < length face → has_at p h face s ≡ true) → place_followed p h face ≡ s
unfolding place_followed
found_followed p h face s le before here =
    let places = range_with_len 0 (length face) in
    let count : length places ≡ length face = length-range_with_len 0 (length face) in
    let at : (k : ℕ) → k < length face → get_or places k 0 ≡ k = λ k lt. get_or-range_with_len 0 (length face) k 0 lt ∙ omega arith in
    position_or_len_is (has_at p h face) places s 0 (omega (arith, count, le))
    (λ k lt. ap (has_at p h face) (at k (omega (arith, le, lt))) ∙ before k lt)
    (λ lt. ap (has_at p h face) (at s (omega (arith, count, lt))) ∙ here (omega (arith, count, lt)))

pub found_place : (p : ℤ) (face : List ℤ) (s : ℕ) → s ≤ length face → ((k : ℕ) → k < s → int_eq (get_or face k (pos 0)) p ≡ false) → (s < length face → int_eq (get_or face s (pos 0)) p ≡ true) → place_of p face ≡ s
found_place p face s le before here = position_or_len_is (λ number. int_eq number p) face s (pos 0) le before here

place_head : (p x : ℤ) (xs : List ℤ) (b : Bool) → (b || holds p xs) ≡ true → (holds p xs ≡ true → place_of p xs < length xs) → cond (not b) (1 + place_of p xs) 0 < suc (length xs)
place_head p x xs true held rest = omega arith
place_head p x xs false held rest = omega (arith, rest held)

pub place_held : (p : ℤ) (face : List ℤ) → holds p face ≡ true → place_of p face < length face
place_held p [] held = absurd (cc (held))
place_held p (x ∷ xs) held = place_head p x xs (int_eq x p) held (place_held p xs)

-- what holds of two numbers holds of equal ones
pub along : (P : ℤ → ℤ → Type 0) (p q h i : ℤ) → p ≡ q → h ≡ i → P p h → P q i
along P p q h i e f x = subst (λ z. P z i) e (subst (λ z. P p z) f x)
