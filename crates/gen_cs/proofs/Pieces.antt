-- What holds of every face of a list that is made of pieces.
use Rattle.std.proofs.Common.{◌+◌, ◌<◌, ℕ, zero, suc, ℤ, List, [], ◌∷◌, ◌++◌, map, arith}
use Rattle.std.specs.List.{flat_map, range_with_len, AllByRecursion}

all_append : (P : List ℤ → Type 0) (xs ys : List (List ℤ)) → AllByRecursion P xs → AllByRecursion P ys → AllByRecursion P (xs ++ ys)
all_append P [] ys p q = q
all_append P (x ∷ xs) ys p q = (p.0, all_append P xs ys p.1 q)

pub all_range : (P : List ℤ → Type 0) (f : ℕ → List ℤ) (a k : ℕ) → ((i : ℕ) → i < a + k → P (f i)) → AllByRecursion P (map f (range_with_len a k))
all_range P f a zero h = tt
all_range P f a (suc k) h = (h a (omega arith), all_range P f (a + 1) k (λ i l. h i (omega (arith, l))))

pub all_flat_range : (P : List ℤ → Type 0) (f : ℕ → List (List ℤ)) (a k : ℕ) → ((i : ℕ) → i < a + k → AllByRecursion P (f i)) → AllByRecursion P (flat_map f (range_with_len a k))
all_flat_range P f a zero h = tt
all_flat_range P f a (suc k) h = all_append P (f a) (flat_map f (range_with_len (a + 1) k)) (h a (omega arith)) (all_flat_range P f (a + 1) k (λ i l. h i (omega (arith, l))))

pub all_flat : {A : Type 0} (P : List ℤ → Type 0) (f : A → List (List ℤ)) (xs : List A) → ((x : A) → AllByRecursion P (f x)) → AllByRecursion P (flat_map f xs)
all_flat P f [] h = tt
all_flat P f (x ∷ xs) h = all_append P (f x) (flat_map f xs) (h x) (all_flat P f xs h)
