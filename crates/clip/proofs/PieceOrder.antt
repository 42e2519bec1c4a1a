-- Lists of pieces in strictly ascending order.
use Rattle.std.proofs.Common.{ℕ, ◌-◌, ◌<◌, ◌≤◌, ◌⊎◌, inl, inr, List, [], ◌∷◌, ◌++◌, length, slice_index_or, sym, ◌∙◌, subst, arith, length-append}
use Rattle.std.specs.List.{All, AllPairs}
use Rattle.std.proofs.lemmas.List.{get_or_append_left, get_or-append_right}
use Rattle.std.proofs.lemmas.List.Quantifiers.{all_pairs_push}
use Rattle.vec_exact.proofs.Cycles.{same_or_not}
use Rattle.clip.specs.declared.pieces.Piece.{Piece}
use Rattle.clip.specs.Overlaps.{IsBefore}

pub before_trans : (p q r : Piece) → IsBefore p q → IsBefore q r → IsBefore p r
before_trans p q r a b =
    elim a [
      | inl x ↦ elim b [ inl y ↦ inl (omega (arith, x, y)) | inr y ↦ inl (omega (arith, x, y.0)) ]
      | inr x ↦ elim b [ inl y ↦ inl (omega (arith, x.0, y)) | inr y ↦ inr (x.0 ∙ y.0, omega (arith, x.1, y.1)) ]
    ]

-- one piece more, after the last one
pub ascending_push : (ps : List Piece) (q : Piece) → AllPairs IsBefore ps → ((d : Piece) → 0 < length ps → IsBefore (slice_index_or ps (length ps - 1) d) q) → AllPairs IsBefore (ps ++ q ∷ [])
ascending_push ps q a h =
    all_pairs_push IsBefore ps q a
    (λ k d l. elim (same_or_not k (length ps - 1)) [
      | inl e ↦ subst (λ (i : ℕ). IsBefore (slice_index_or ps i d) q) (sym e) (h d (omega arith))
      | inr ne ↦ before_trans (slice_index_or ps k d) (slice_index_or ps (length ps - 1) d) q (a k (length ps - 1) d (omega (arith, ne)) (omega arith)) (h d (omega arith))
    ])

-- two lists, where each piece of the first comes before each of the second
pub ascending_append : (ps qs : List Piece) → AllPairs IsBefore ps → AllPairs IsBefore qs → All (λ p. All (IsBefore p) qs) ps → AllPairs IsBefore (ps ++ qs)
ascending_append ps qs a b c i j d l r =
    elim (low_or_high j) [
      | inl lj ↦
          subst (λ (p : Piece). IsBefore p (slice_index_or (ps ++ qs) j d)) (sym (get_or_append_left ps qs d i (omega (arith, lj))))
          (subst (IsBefore (slice_index_or ps i d)) (sym (get_or_append_left ps qs d j lj)) (a i j d l lj))
      | inr hj ↦
          subst (IsBefore (slice_index_or (ps ++ qs) i d)) (sym (get_or-append_right ps qs (length ps) j d (λ _. length ps) hj))
          (elim (low_or_high i) [
            | inl li ↦ subst (λ (p : Piece). IsBefore p (slice_index_or qs (j - length ps) d)) (sym (get_or_append_left ps qs d i li))
                (c i d li (j - length ps) d (omega (arith, hj, r, length-append ps qs)))
            | inr hi ↦ subst (λ (p : Piece). IsBefore p (slice_index_or qs (j - length ps) d)) (sym (get_or-append_right ps qs (length ps) i d (λ _. length ps) hi))
                (b (i - length ps) (j - length ps) d (omega (arith, hi, hj, l)) (omega (arith, hj, r, length-append ps qs)))
          ])
    ]
  where
    low_or_high : (k : ℕ) → (k < length ps) ⊎ (length ps ≤ k)
    low_or_high k = grind arith
