-- Lists over the numbers below a number: one more, and how long they are.
use Rattle.std.proofs.Common.{◌≡◌, ◌+◌, ◌-◌, ◌*◌, ◌≤◌, ◌<◌, ℕ, zero, suc, List, [], ◌∷◌, ◌++◌, refl, sym, ap, ◌∙◌, append_assoc, append-nil, add-one, map, arith, length, length-append}
use Rattle.std.proofs.lemmas.List.FromFn.{map-range_with_len_more}
use Rattle.std.specs.List.{flat_map, range_with_len}

flat_from : {A : Type 0} (f : ℕ → List A) (a k j : ℕ) → a + k ≡ j → flat_map f (range_with_len a (suc k)) ≡ flat_map f (range_with_len a k) ++ f j
flat_from f a zero j e = append-nil (f a) ∙ ap f (omega arith)
flat_from f a (suc k) j e = ap (λ l. f a ++ l) (flat_from f (a + 1) k j (omega arith)) ∙ sym (append_assoc (f a) (flat_map f (range_with_len (a + 1) k)) (f j))

pub flat_range_more : {A : Type 0} (f : ℕ → List A) (k : ℕ) → flat_map f (range_with_len 0 (k + 1)) ≡ flat_map f (range_with_len 0 k) ++ f k
flat_range_more f k = ap (λ n. flat_map f (range_with_len 0 n)) (add-one k) ∙ flat_from f 0 k k (omega arith)

-- behind what was there
pub flat_behind : {A : Type 0} (out : List A) (f : ℕ → List A) (k : ℕ) → (out ++ flat_map f (range_with_len 0 k)) ++ f k ≡ out ++ flat_map f (range_with_len 0 (k + 1))
flat_behind out f k = append_assoc out (flat_map f (range_with_len 0 k)) (f k) ∙ ap (λ l. out ++ l) (sym (flat_range_more f k))

-- one item more behind what was there
pub map_behind : {A : Type 0} (out : List A) (f : ℕ → A) (k : ℕ) → (out ++ map f (range_with_len 0 k)) ++ f k ∷ [] ≡ out ++ map f (range_with_len 0 (k + 1))
map_behind out f k = append_assoc out (map f (range_with_len 0 k)) (f k ∷ []) ∙ ap (λ l. out ++ l) (sym (map-range_with_len_more f 0 k k (omega arith)))

-- pieces of one length
pub length_even : {A : Type 0} (f : ℕ → List A) (m a k : ℕ) → ((i : ℕ) → a ≤ i → i < a + k → length (f i) ≡ m) → length (flat_map f (range_with_len a k)) ≡ k * m
length_even f m a zero h = omega arith
length_even f m a (suc k) h =
    omega (
      arith,
      length-append (f a) (flat_map f (range_with_len (a + 1) k)),
      h a (omega arith) (omega arith),
      length_even f m (a + 1) k (λ i low high. h i (omega (arith, low)) (omega (arith, high))),
    )

-- a first piece, and further pieces of one length
pub length_behind_first : {A : Type 0} (f : ℕ → List A) (e m k : ℕ) → 1 ≤ k → length (f 0) ≡ e → ((i : ℕ) → 1 ≤ i → i < k → length (f i) ≡ m) → length (flat_map f (range_with_len 0 k)) ≡ e + (k - 1) * m
length_behind_first f e m zero least first h = absurd (omega (arith, least))
length_behind_first f e m (suc k) least first h =
    let split : length (flat_map f (range_with_len 0 (suc k))) ≡ length (f 0 ++ flat_map f (range_with_len 1 k)) = refl in
    let less : suc k - 1 ≡ k = omega arith in
    omega (
      arith,
      split,
      ap (λ (j : ℕ). j * m) less,
      length-append (f 0) (flat_map f (range_with_len 1 k)),
      first,
      length_even f m 1 k (λ i low high. h i low (omega (arith, high))),
    )

-- pieces that are empty
flat_empty : {A : Type 0} (f : ℕ → List A) (a k : ℕ) → ((i : ℕ) → a ≤ i → i < a + k → f i ≡ []) → flat_map f (range_with_len a k) ≡ []
flat_empty f a zero h = refl
flat_empty f a (suc k) h =
    ap (λ l. l ++ flat_map f (range_with_len (a + 1) k)) (h a (omega arith) (omega arith)) ∙ flat_empty f (a + 1) k (λ i low high. h i (omega (arith, low)) (omega (arith, high)))

-- a first piece alone, where the further ones are empty
pub flat_first : {A : Type 0} (f : ℕ → List A) (k : ℕ) → 1 ≤ k → ((i : ℕ) → 1 ≤ i → i < k → f i ≡ []) → flat_map f (range_with_len 0 k) ≡ f 0
flat_first f zero least h = absurd (omega (arith, least))
flat_first f (suc k) least h = ap (λ l. f 0 ++ l) (flat_empty f 1 k (λ i low high. h i low (omega (arith, high)))) ∙ append-nil (f 0)

-- all pieces, and a last one
pub length_more : {A : Type 0} (f : ℕ → List A) (k : ℕ) → length (flat_map f (range_with_len 0 (k + 1))) ≡ length (flat_map f (range_with_len 0 k)) + length (f k)
length_more f k = ap length (flat_range_more f k) ∙ length-append (flat_map f (range_with_len 0 k)) (f k)
