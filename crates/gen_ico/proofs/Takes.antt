-- The first items of a list, and what stands at one place.
use Rattle.std.proofs.Common.{◌≡◌, ◌<◌, ℕ, zero, suc, List, [], ◌∷◌, ◌++◌, refl, sym, ap, ◌∙◌, append_assoc, append-nil, take, get_or, arith, length}
use Rattle.std.specs.List.{flat_map}

-- the pieces of the first s items, and that of the next one
pub flat_take : {A B : Type 0} (f : A → List B) (xs : List A) (s : ℕ) (d : A) → s < length xs → flat_map f (take (suc s) xs) ≡ flat_map f (take s xs) ++ f (get_or xs s d)
flat_take f [] s d lt = absurd (omega (arith, lt))
flat_take f (x ∷ xs) zero d lt = append-nil (f x)
flat_take f (x ∷ xs) (suc s) d lt = ap (λ l. f x ++ l) (flat_take f xs s d (omega (arith, lt))) ∙ sym (append_assoc (f x) (flat_map f (take s xs)) (f (get_or xs s d)))

-- an item reads the same with another default
pub get_or_again : {A : Type 0} (xs : List A) (k : ℕ) (d : A) → k < length xs → get_or xs k (get_or xs k d) ≡ get_or xs k d
get_or_again [] k d lt = absurd (omega (arith, lt))
get_or_again (x ∷ xs) zero d lt = refl
get_or_again (x ∷ xs) (suc k) d lt = get_or_again xs k d (omega (arith, lt))
