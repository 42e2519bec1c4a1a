-- Where a test passes.
use Rattle.std.proofs.Common.{◌≡◌, refl, cond, not, Bool, true, false, ◌||◌, ◌+◌, List, [], ◌∷◌, length, arith}
use Rattle.std.specs.List.{list_any, position_or_len}

-- A search that stops at no element passes none.
pub list_any_nowhere : {X : Type 0} (p : X → Bool) (xs : List X) → position_or_len p xs ≡ length xs → list_any p xs ≡ false
list_any_nowhere p [] h = refl
list_any_nowhere p (x ∷ xs) h =
    elim (p x) as (λ b. cond (not b) (1 + position_or_len p xs) 0 ≡ length (x ∷ xs) → (b || list_any p xs) ≡ false) [
      | true ↦ λ e. absurd (omega arith)
      | false ↦ λ e. list_any_nowhere p xs (omega arith)
    ] h
