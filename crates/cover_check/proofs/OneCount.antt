-- There is at most one count of covered targets.
use Rattle.std.proofs.Common.{◌≡◌, ℕ, ◌<◌, inl, inr, List, length, arith, sym, ap, ◌∙◌}
use Rattle.std.proofs.lemmas.List.Elements.{All-contains}
use Rattle.vec_exact.specs.declared.RawMesh.{RawMesh}
use Rattle.vec_exact.proofs.Cycles.{below_same_above}
use Rattle.cell_index.proofs.Ascending.{same_members}
use Rattle.cover_check.specs.declared.counting.CoverCount.{CoverCount}
use Rattle.cover_check.specs.CoveredTargets.{IsCoveredWithin, AreCoveredWithin, IsFirstUncovered, OneCoverCount}

module _ (sources targets : RawMesh) (from end : ℕ) where
  same_list : (xs ys : List ℕ) → AreCoveredWithin sources targets from end xs → AreCoveredWithin sources targets from end ys → xs ≡ ys
  same_list xs ys a b =
      same_members (λ i j. i < j) (λ i j l r. absurd (omega (arith, l, r))) xs ys a.ascending b.ascending
      (λ z c. b.complete z (All-contains (IsCoveredWithin sources targets from end) xs z a.each c))
      (λ z c. a.complete z (All-contains (IsCoveredWithin sources targets from end) ys z b.each c))

  same_first : (x y : ℕ) → IsFirstUncovered sources targets from end x → IsFirstUncovered sources targets from end y → x ≡ y
  same_first x y (inl a) (inl b) = a.0 ∙ sym b.0
  same_first x y (inl a) (inr v) = absurd (v.uncovered (a.1 y v.low v.high))
  same_first x y (inr u) (inl b) = absurd (u.uncovered (b.1 x u.low u.high))
  same_first x y (inr u) (inr v) =
      elim (below_same_above x y) [
        | inl l ↦ absurd (u.uncovered (v.before x u.low l))
        | inr o ↦ elim o [
          | inl same ↦ same
          | inr l ↦ absurd (v.uncovered (u.before y v.low l))
        ]
      ]

count_eq : (c d : CoverCount) → c.covered ≡ d.covered → c.first ≡ d.first → c ≡ d
count_eq c d p q = λ i. record { covered = p i; first = q i }

pub one_cover_count : OneCoverCount
one_cover_count sources targets c d a b =
    count_eq c d
    (sym a.covered.2 ∙ ap length (same_list sources targets 1 _ a.covered.0 b.covered.0 a.covered.1 b.covered.1) ∙ b.covered.2)
    (same_first sources targets 1 _ c.first d.first a.first b.first)
