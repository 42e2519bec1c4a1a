-- Counting the targets that are covered, one after another.
use Rattle.std.proofs.Common.{◌≡◌, ◌≢◌, ℕ, ◌+◌, ◌<◌, ◌≤◌, Bool, true, false, List, [], ◌∷◌, ◌++◌, length, arith, refl, sym, ◌∙◌, inl, inr, subst, slice_index_or, length-append, ◌↔◌}
use Rattle.std.proofs.lemmas.List.Elements.{All-push, Contains-append_left, Contains-append_right}
use Rattle.std.proofs.lemmas.List.Quantifiers.{all_pairs_push}
use Rattle.vec_exact.specs.declared.RawMesh.{RawMesh}
use Rattle.vec_exact.proofs.Cycles.{same_or_not}
use Rattle.cover_check.specs.declared.counting.CoverCount.{CoverCount}
use Rattle.cover_check.specs.CoveredTargets.{IsCoveredTarget, IsCoveredWithin, AreCoveredWithin, AreAllCovered, IsLeastUncovered, IsFirstUncovered, IsCountWithin}

module _ (sources targets : RawMesh) (from : ℕ) where
  abbrev IsOne : ℕ → ℕ → Type 0
  IsOne j k = IsCoveredWithin sources targets from j k

  -- before any target
  pub none_counted : IsCountWithin sources targets from from (record { covered = 0; first = 0 })
  none_counted = record {
    covered = ([], record { ascending = λ i j d l r. absurd (omega arith); each = λ k d l. absurd (omega arith); complete = λ j w. absurd (omega (arith, w.low, w.high)) }, refl);
    first = inl (refl, λ j l r. absurd (omega arith));
  }

  wider : (j k : ℕ) → IsOne j k → IsOne (j + 1) k
  wider j k w = record { low = w.low; high = omega (arith, w.high); covered = w.covered }

  all_wider : (j : ℕ) (list : List ℕ) → AreCoveredWithin sources targets from j list → (k d : ℕ) → k < length list → IsOne (j + 1) (slice_index_or list k d)
  all_wider j list a k d l = wider j (slice_index_or list k d) (a.each k d l)

  -- one target more, which is covered
  with_one : (j : ℕ) (list : List ℕ) → from ≤ j → AreCoveredWithin sources targets from j list → IsCoveredTarget sources targets j → AreCoveredWithin sources targets from (j + 1) (list ++ j ∷ [])
  with_one j list low a c = record {
    ascending = all_pairs_push (λ x y. x < y) list j a.ascending (λ k d l. (a.each k d l).high);
    each = All-push (IsOne (j + 1)) list j (all_wider j list a) (record { low = low; high = omega arith; covered = c });
    complete = λ k w. elim (same_or_not k j) [
      | inl e ↦ Contains-append_right list (j ∷ []) k (0, omega arith, sym e)
      | inr ne ↦ Contains-append_left list (j ∷ []) k (a.complete k (record { low = w.low; high = omega (arith, w.high); covered = w.covered }))
    ];
  }

  -- and which isn't
  without_one : (j : ℕ) (list : List ℕ) → AreCoveredWithin sources targets from j list → ¬ IsCoveredTarget sources targets j → AreCoveredWithin sources targets from (j + 1) list
  without_one j list a o = record {
    ascending = a.ascending;
    each = all_wider j list a;
    complete = λ k w. elim (same_or_not k j) [
      | inl e ↦ absurd (o (subst (IsCoveredTarget sources targets) e w.covered))
      | inr ne ↦ a.complete k (record { low = w.low; high = omega (arith, w.high); covered = w.covered })
    ];
  }

  all_with_one : (j : ℕ) → AreAllCovered sources targets from j → IsCoveredTarget sources targets j → AreAllCovered sources targets from (j + 1)
  all_with_one j all c k l r =
      elim (same_or_not k j) [
        | inl e ↦ subst (IsCoveredTarget sources targets) (sym e) c
        | inr ne ↦ all k l (omega arith)
      ]

  least_wider : (j first : ℕ) → IsLeastUncovered sources targets from j first → IsLeastUncovered sources targets from (j + 1) first
  least_wider j first u = record { low = u.low; high = omega (arith, u.high); uncovered = u.uncovered; before = u.before }

  -- the count with one target more
  pub counted_covered : (j : ℕ) (count next : CoverCount) → from ≤ j → IsCountWithin sources targets from j count → IsCoveredTarget sources targets j
      → next.covered ≡ count.covered + 1 → next.first ≡ count.first → IsCountWithin sources targets from (j + 1) next
  counted_covered j count next low w c e f = record {
    covered = (w.covered.0 ++ j ∷ [], with_one j w.covered.0 low w.covered.1 c, omega (arith, length-append w.covered.0 (j ∷ []), w.covered.2, e));
    first = subst (IsFirstUncovered sources targets from (j + 1)) (sym f)
        (elim w.first [
          | inl all ↦ inl (all.0, all_with_one j all.1 c)
          | inr u ↦ inr (least_wider j count.first u)
        ]);
  }

  pub counted_uncovered : (j : ℕ) (count next : CoverCount) → from ≤ j → 1 ≤ from → IsCountWithin sources targets from j count → ¬ IsCoveredTarget sources targets j
      → next.covered ≡ count.covered → (count.first ≡ 0 → next.first ≡ j) → (count.first ≢ 0 → next.first ≡ count.first) → IsCountWithin sources targets from (j + 1) next
  counted_uncovered j count next low some w o e f g = record {
    covered = (w.covered.0, without_one j w.covered.0 w.covered.1 o, w.covered.2 ∙ sym e);
    first = elim w.first [
      | inl all ↦ inr (subst (IsLeastUncovered sources targets from (j + 1)) (sym (f all.0)) (record { low = low; high = omega arith; uncovered = o; before = all.1 }))
      | inr u ↦ inr (subst (IsLeastUncovered sources targets from (j + 1)) (sym (g (λ z. absurd (omega (arith, z, u.low, some))))) (least_wider j count.first u))
    ];
  }

  -- what the code makes of one target more
  pub record IsNext (j : ℕ) (covered : Bool) (count next : CoverCount) : Type 0 where
    pub one_more : covered ≡ true → next.covered ≡ count.covered + 1
    pub same_first : covered ≡ true → next.first ≡ count.first
    pub same : covered ≡ false → next.covered ≡ count.covered
    pub first : covered ≡ false → count.first ≡ 0 → next.first ≡ j
    pub later : covered ≡ false → count.first ≢ 0 → next.first ≡ count.first

  pub next_count : (j : ℕ) (covered : Bool) (count next : CoverCount) → from ≤ j → 1 ≤ from → IsCountWithin sources targets from j count
      → (covered ≡ true) ↔ IsCoveredTarget sources targets j → IsNext j covered count next → IsCountWithin sources targets from (j + 1) next
  next_count j true count next low some w is n = counted_covered j count next low w (is.0 refl) (n.one_more refl) (n.same_first refl)
  next_count j false count next low some w is n = counted_uncovered j count next low some w (λ h. cc (is.1 h)) (n.same refl) (n.first refl) (n.later refl)

  pub next_few : (j : ℕ) (covered : Bool) (count next : CoverCount) → count.covered + from ≤ j → IsNext j covered count next → next.covered + from ≤ j + 1
  next_few j true count next few n = omega (arith, n.one_more refl)
  next_few j false count next few n = omega (arith, n.same refl)
