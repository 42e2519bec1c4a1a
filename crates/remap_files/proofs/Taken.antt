-- One more item of a list.
use mir.Syntax.{Width}
use mir.Val.{to_z, hbits}
use Rattle.std.proofs.Common.{◌≡◌, ◌<◌, ◌+◌, ◌^◌, ℕ, suc, ℤ, pos, List, [], ◌∷◌, ◌++◌, length, take, map, All, ap, sym, subst, ◌∙◌, arith, slice_index_or, append_assoc}
use Rattle.std.specs.List.{flat_map}
use Rattle.std.proofs.Math.Seq.{take-suc}
use Rattle.std.proofs.lemmas.Grind.{flat_map-append}
use Rattle.std.proofs.lemmas.Int.{to_z_pos}
use Rattle.std.proofs.lemmas.List.{append-nil, map_more}
use Rattle.std.proofs.lemmas.List.Concat.{flat_map-cons}
use Rattle.std.proofs.lemmas.List.Elements.{All-push}

take_more : {X : Type 0} (xs : List X) (i : ℕ) (d : X) → i < length xs → take (i + 1) xs ≡ take i xs ++ slice_index_or xs i d ∷ []
take_more xs i d below = let at : i + 1 ≡ suc i = omega arith in ap (λ k. take k xs) at ∙ take-suc xs i d below

pub all_more : {X : Type 0} (P : X → Type 0) (xs : List X) (i : ℕ) (d : X) → i < length xs → All P (take i xs) → P (slice_index_or xs i d) → All P (take (i + 1) xs)
all_more P xs i d below all here = subst (λ l. All P l) (sym (take_more xs i d below)) (All-push P (take i xs) (slice_index_or xs i d) all here)

pub flat_more : {X A : Type 0} (f : X → List A) (xs : List X) (i : ℕ) (d : X) → i < length xs → flat_map f (take (i + 1) xs) ≡ flat_map f (take i xs) ++ f (slice_index_or xs i d)
flat_more f xs i d below =
    ap (flat_map f) (take_more xs i d below)
    ∙ flat_map-append f (take i xs) (slice_index_or xs i d ∷ [])
    ∙ ap (λ l. flat_map f (take i xs) ++ l) (flat_map-cons f (slice_index_or xs i d) [] ∙ append-nil (f (slice_index_or xs i d)))

-- what was gained so far and what one more item gives is what all of these give
pub flat_step : {X A : Type 0} (f : X → List A) (xs : List X) (i : ℕ) (d : X) (old so_far new : List A) → i < length xs → so_far ≡ old ++ flat_map f (take i xs) → new ≡ so_far ++ f (slice_index_or xs i d) → new ≡ old ++ flat_map f (take (i + 1) xs)
flat_step f xs i d old so_far new below h step =
    step ∙ ap (λ l. l ++ f (slice_index_or xs i d)) h ∙ append_assoc old (flat_map f (take i xs)) (f (slice_index_or xs i d)) ∙ ap (λ l. old ++ l) (sym (flat_more f xs i d below))

-- the same, where each item gives one number that is not too large for its type
pub number_step : {X : Type 0} (w : Width) (f : X → ℕ) (xs : List X) (i : ℕ) (d x : X) (old so_far new : List ℤ) → i < length xs → x ≡ slice_index_or xs i d → f x < 2 ^ hbits w → so_far ≡ old ++ map (λ y. pos (f y)) (take i xs) → new ≡ so_far ++ to_z w (f x) ∷ []
    → new ≡ old ++ map (λ y. pos (f y)) (take (i + 1) xs)
number_step w f xs i d x old so_far new below is small h step =
    step
    ∙ ap (λ z. so_far ++ z ∷ []) (to_z_pos w (f x) small ∙ ap (λ y. pos (f y)) is)
    ∙ ap (λ l. l ++ pos (f (slice_index_or xs i d)) ∷ []) h
    ∙ append_assoc old (map (λ y. pos (f y)) (take i xs)) (pos (f (slice_index_or xs i d)) ∷ [])
    ∙ ap (λ l. old ++ l) (sym (map_more (λ y. pos (f y)) xs i d below))
