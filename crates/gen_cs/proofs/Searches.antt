-- The first place at which a test passes, in a list that is made of pieces.
use Rattle.std.proofs.Common.{◌≡◌, ◌+◌, ◌≤◌, ◌<◌, ℕ, zero, suc, Bool, true, false, ◌||◌, not, cond, List, [], ◌∷◌, ◌++◌, refl, sym, ap, subst, ◌∙◌, arith, length, length-append}
use Rattle.std.specs.List.{flat_map, range_with_len, position_or_len, list_any}

pub or_left : (a b : Bool) → (a || b) ≡ false → a ≡ false
or_left true b h = h
or_left false b h = refl

pub or_right : (a b : Bool) → (a || b) ≡ false → b ≡ false
or_right true b h = cc
or_right false b h = h

pub or_false : (a b : Bool) → a ≡ false → b ≡ false → (a || b) ≡ false
or_false true b h g = h
or_false false b h g = g

-- behind a piece in which it passes nowhere
pub position_behind : {A : Type 0} (p : A → Bool) (xs ys : List A) → list_any p xs ≡ false → position_or_len p (xs ++ ys) ≡ length xs + position_or_len p ys
position_behind p [] ys h = omega arith
position_behind p (x ∷ xs) ys h =
    let no : p x ≡ false = or_left (p x) (list_any p xs) h in
    let rest = position_behind p xs ys (or_right (p x) (list_any p xs) h) in
    rw no (omega (arith, rest))

first_or_later : (b : Bool) (k l m : ℕ) → cond (not b) (1 + k) 0 < suc m → (k < m → l ≡ k) → cond (not b) (1 + l) 0 ≡ cond (not b) (1 + k) 0
first_or_later true k l m h later = refl
first_or_later false k l m h later = ap (λ (i : ℕ). 1 + i) (later (omega (arith, h)))

-- in a piece in which it passes
pub position_within : {A : Type 0} (p : A → Bool) (xs ys : List A) → position_or_len p xs < length xs → position_or_len p (xs ++ ys) ≡ position_or_len p xs
position_within p [] ys h = absurd (omega (arith, h))
position_within p (x ∷ xs) ys h = first_or_later (p x) (position_or_len p xs) (position_or_len p (xs ++ ys)) (length xs) h (position_within p xs ys)

-- where it passes nowhere in two pieces, it passes nowhere in both together
pub misses_both : {A : Type 0} (p : A → Bool) (xs ys : List A) → list_any p xs ≡ false → list_any p ys ≡ false → list_any p (xs ++ ys) ≡ false
misses_both p [] ys h g = g
misses_both p (x ∷ xs) ys h g = or_false (p x) (list_any p (xs ++ ys)) (or_left (p x) (list_any p xs) h) (misses_both p xs ys (or_right (p x) (list_any p xs) h) g)

-- it passes in none of the pieces
pub misses_flat : {A : Type 0} (p : A → Bool) (f : ℕ → List A) (a k : ℕ) → ((i : ℕ) → a ≤ i → i < a + k → list_any p (f i) ≡ false) → list_any p (flat_map f (range_with_len a k)) ≡ false
misses_flat p f a zero h = refl
misses_flat p f a (suc k) h =
    misses_both p (f a) (flat_map f (range_with_len (a + 1) k)) (h a (omega arith) (omega arith)) (misses_flat p f (a + 1) k (λ i low high. h i (omega (arith, low)) (omega (arith, high))))

-- it passes in the piece at t, and in none before
pub position_flat : {A : Type 0} (p : A → Bool) (f : ℕ → List A) (a m k t : ℕ) → a + k ≡ t → k < m → ((i : ℕ) → a ≤ i → i < t → list_any p (f i) ≡ false) → position_or_len p (f t) < length (f t)
    → position_or_len p (flat_map f (range_with_len a m)) ≡ length (flat_map f (range_with_len a k)) + position_or_len p (f t)
position_flat p f a zero k t e lt miss hit = absurd (omega (arith, lt))
position_flat p f a (suc m) zero t e lt miss hit =
    let same : t ≡ a = omega (arith, e) in
    let here : position_or_len p (f a) < length (f a) = subst (λ s. position_or_len p (f s) < length (f s)) same hit in
    position_within p (f a) (flat_map f (range_with_len (a + 1) m)) here ∙ ap (λ s. position_or_len p (f s)) (sym same) ∙ omega arith
position_flat p f a (suc m) (suc k) t e lt miss hit =
    let rest = position_flat p f (a + 1) m k t (omega (arith, e)) (omega (arith, lt)) (λ i low high. miss i (omega (arith, low)) high) hit in
    omega (
      arith,
      position_behind p (f a) (flat_map f (range_with_len (a + 1) m)) (miss a (omega arith) (omega (arith, e))),
      rest,
      length-append (f a) (flat_map f (range_with_len (a + 1) k)),
    )

-- the pieces before the one at t, and that one, are not longer than all
length_through : {A : Type 0} (f : ℕ → List A) (a m k t : ℕ) → a + k ≡ t → k < m → length (flat_map f (range_with_len a k)) + length (f t) ≤ length (flat_map f (range_with_len a m))
length_through f a zero k t e lt = absurd (omega (arith, lt))
length_through f a (suc m) zero t e lt =
    let same : t ≡ a = omega (arith, e) in
    omega (arith, ap (λ s. length (f s)) same, length-append (f a) (flat_map f (range_with_len (a + 1) m)))
length_through f a (suc m) (suc k) t e lt =
    omega (
      arith,
      length-append (f a) (flat_map f (range_with_len (a + 1) m)),
      length-append (f a) (flat_map f (range_with_len (a + 1) k)),
      length_through f (a + 1) m k t (omega (arith, e)) (omega (arith, lt)),
    )

-- so the search ends within the list
pub within_flat : {A : Type 0} (p : A → Bool) (f : ℕ → List A) (a m k t : ℕ) → a + k ≡ t → k < m → ((i : ℕ) → a ≤ i → i < t → list_any p (f i) ≡ false) → position_or_len p (f t) < length (f t)
    → position_or_len p (flat_map f (range_with_len a m)) < length (flat_map f (range_with_len a m))
within_flat p f a m k t e lt miss hit = omega (arith, position_flat p f a m k t e lt miss hit, length_through f a m k t e lt, hit)
