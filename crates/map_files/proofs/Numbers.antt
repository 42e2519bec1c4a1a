-- One more number of a column.
use mir.Syntax.{Width}
use mir.Val.{to_z, of_z, hbits, SFits}
use Rattle.std.proofs.Common.{◌≡◌, ◌<◌, ◌+◌, ◌^◌, ℕ, ℤ, pos, List, [], ◌∷◌, ◌++◌, length, take, map, ap, sym, ◌∙◌, slice_index_or}
use Rattle.std.proofs.lemmas.Int.{to_z_pos, to_z-of_z}
use Rattle.std.proofs.lemmas.List.{map_more}

column_step : {X : Type 0} (f : X → ℤ) (xs : List X) (i : ℕ) (d : X) (z : ℤ) (so_far new : List ℤ) → i < length xs → z ≡ f (slice_index_or xs i d) → so_far ≡ map f (take i xs) → new ≡ so_far ++ z ∷ [] → new ≡ map f (take (i + 1) xs)
column_step f xs i d z so_far new below is h step = step ∙ ap (λ y. so_far ++ y ∷ []) is ∙ ap (λ l. l ++ f (slice_index_or xs i d) ∷ []) h ∙ sym (map_more f xs i d below)

-- what was gained so far and one more number, which is not too large for its type, are what all of these give
pub number_step : {X : Type 0} (w : Width) (f : X → ℕ) (xs : List X) (i : ℕ) (d : X) (so_far new : List ℤ) → i < length xs → f (slice_index_or xs i d) < 2 ^ hbits w → so_far ≡ map (λ y. pos (f y)) (take i xs) → new ≡ so_far ++ to_z w (f (slice_index_or xs i d)) ∷ []
    → new ≡ map (λ y. pos (f y)) (take (i + 1) xs)
number_step w f xs i d so_far new below small h step = column_step (λ y. pos (f y)) xs i d (to_z w (f (slice_index_or xs i d))) so_far new below (to_z_pos w (f (slice_index_or xs i d)) small) h step

-- the same of a number with sign
pub signed_step : {X : Type 0} (w : Width) (f : X → ℤ) (xs : List X) (i : ℕ) (d : X) (so_far new : List ℤ) → i < length xs → SFits w (f (slice_index_or xs i d)) → so_far ≡ map f (take i xs) → new ≡ so_far ++ to_z w (of_z w (f (slice_index_or xs i d))) ∷ []
    → new ≡ map f (take (i + 1) xs)
signed_step w f xs i d so_far new below fits h step = column_step f xs i d (to_z w (of_z w (f (slice_index_or xs i d)))) so_far new below (to_z-of_z w (f (slice_index_or xs i d)) fits) h step
