-- Lists over a range of numbers: one more, and how long they are.
use Rattle.std.proofs.Common.{◌≡◌, ◌+◌, ◌*◌, ℕ, zero, suc, List, [], ◌∷◌, ◌++◌, refl, sym, ap, ◌∙◌, append_assoc, append-nil, map, arith, length, length-append}
use Rattle.std.proofs.lemmas.List.FromFn.{map-range_with_len_more}
use Rattle.std.specs.List.{flat_map, range_with_len}

flat_from : {A : Type 0} (f : ℕ → List A) (a k j : ℕ) → a + k ≡ j → flat_map f (range_with_len a (suc k)) ≡ flat_map f (range_with_len a k) ++ f j
flat_from f a zero j e = append-nil (f a) ∙ ap f (omega arith)
flat_from f a (suc k) j e = ap (λ l. f a ++ l) (flat_from f (a + 1) k j (omega arith)) ∙ sym (append_assoc (f a) (flat_map f (range_with_len (a + 1) k)) (f j))

-- k pieces from a on, and piece j behind them
pub flat_more : {A : Type 0} (f : ℕ → List A) (a k m j : ℕ) → a + k ≡ j → m ≡ k + 1 → flat_map f (range_with_len a k) ++ f j ≡ flat_map f (range_with_len a m)
flat_more f a k m j e g =
    let more : suc k ≡ m = omega arith in
    sym (flat_from f a k j e) ∙ ap (λ n. flat_map f (range_with_len a n)) more

-- one item more behind what was there
pub map_behind : {A : Type 0} (out : List A) (f : ℕ → A) (k : ℕ) → (out ++ map f (range_with_len 0 k)) ++ f k ∷ [] ≡ out ++ map f (range_with_len 0 (k + 1))
map_behind out f k = append_assoc out (map f (range_with_len 0 k)) (f k ∷ []) ∙ ap (λ l. out ++ l) (sym (map-range_with_len_more f 0 k k (omega arith)))

-- pieces of one length
pub length_even : {A : Type 0} (f : ℕ → List A) (m a k : ℕ) → ((i : ℕ) → length (f i) ≡ m) → length (flat_map f (range_with_len a k)) ≡ k * m
length_even f m a zero h = omega arith
length_even f m a (suc k) h = omega (arith, length-append (f a) (flat_map f (range_with_len (a + 1) k)), h a, length_even f m (a + 1) k h)

-- what is made of items that were made of others
pub map_of_map : {A B C : Type 0} (g : B → C) (f : A → B) (xs : List A) → map g (map f xs) ≡ map (λ x. g (f x)) xs
map_of_map g f [] = refl
map_of_map g f (x ∷ xs) = ap (λ l. g (f x) ∷ l) (map_of_map g f xs)
