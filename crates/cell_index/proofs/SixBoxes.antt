-- The boxes on the six panels, one by one.
use Rattle.std.proofs.Common.{◌≡◌, List, [], ◌∷◌, length, Option, arith, slice_index_or}
use Rattle.cell_index.specs.declared.CellBox.{CellBox}

-- six boxes are all of a list of six
pub six_are : (own : List (Option CellBox)) (a b c d e f p q r s t u : Option CellBox) → length own ≡ 6
    → a ≡ slice_index_or own 0 p → b ≡ slice_index_or own 1 q → c ≡ slice_index_or own 2 r → d ≡ slice_index_or own 3 s → e ≡ slice_index_or own 4 t → f ≡ slice_index_or own 5 u
    → a ∷ b ∷ c ∷ d ∷ e ∷ f ∷ [] ≡ own
six_are [] a b c d e f p q r s t u n ha hb hc hd he hf = absurd (omega (arith, n))
six_are (x0 ∷ []) a b c d e f p q r s t u n ha hb hc hd he hf = absurd (omega (arith, n))
six_are (x0 ∷ x1 ∷ []) a b c d e f p q r s t u n ha hb hc hd he hf = absurd (omega (arith, n))
six_are (x0 ∷ x1 ∷ x2 ∷ []) a b c d e f p q r s t u n ha hb hc hd he hf = absurd (omega (arith, n))
six_are (x0 ∷ x1 ∷ x2 ∷ x3 ∷ []) a b c d e f p q r s t u n ha hb hc hd he hf = absurd (omega (arith, n))
six_are (x0 ∷ x1 ∷ x2 ∷ x3 ∷ x4 ∷ []) a b c d e f p q r s t u n ha hb hc hd he hf = absurd (omega (arith, n))
six_are (x0 ∷ x1 ∷ x2 ∷ x3 ∷ x4 ∷ x5 ∷ []) a b c d e f p q r s t u n ha hb hc hd he hf = λ i. ha i ∷ hb i ∷ hc i ∷ hd i ∷ he i ∷ hf i ∷ []
six_are (x0 ∷ x1 ∷ x2 ∷ x3 ∷ x4 ∷ x5 ∷ x6 ∷ more) a b c d e f p q r s t u n ha hb hc hd he hf = absurd (omega (arith, n))
