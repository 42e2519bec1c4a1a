-- What is found among the sides of a ring is a run of positive ones.
use Rattle.std.proofs.Common.{◌≡◌, ℕ, suc, ◌+◌, ◌<◌, ◌≤◌, ◌-◌, ℤ, pos, ◌≤ℤ◌, ◌<ℤ◌, List, length, arith, ap, sym, ◌∙◌, inl, inr, subst}
use Rattle.std.proofs.lemmas.Int.{ints}
use Rattle.vec_exact.specs.Cycle.{after, shifted}
use Rattle.vec_exact.proofs.Cycles.{same_or_not, below_same_above, after_below, after_inner, after_last, shifted_early, shifted_late}
use Rattle.cover_cells.specs.Sides.{side_at, IsRun}

-- the place before the first of a turned cycle is its last
last_is : (k t : ℕ) → t < k → shifted k (after k t) (k - 1) ≡ t
last_is k t l =
    elim (same_or_not (suc t) k) [
      | inl e ↦ ap (λ (j : ℕ). shifted k j (k - 1)) (after_last k t e) ∙ shifted_early k 0 (k - 1) (omega arith) ∙ omega arith
      | inr ne ↦ ap (λ (j : ℕ). shifted k j (k - 1)) (after_inner k t (omega arith)) ∙ shifted_late k (suc t) (k - 1) (omega arith) ∙ omega arith
    ]

first_is : (k j : ℕ) → j < k → shifted k j 0 ≡ j
first_is k j l = shifted_early k j 0 (omega arith) ∙ omega arith

-- every place is one of the turned cycle
pub place_back : (k j s : ℕ) → j ≤ k → s < k → (t : ℕ) × (t < k) × (shifted k j t ≡ s)
place_back k j s l ls =
    elim (below_same_above s j) [
      | inl lt ↦ (s + (k - j), omega arith, shifted_late k j (s + (k - j)) (omega arith) ∙ omega arith)
      | inr o ↦ (s - j, omega (arith, o), shifted_early k j (s - j) (omega (arith, o)) ∙ omega (arith, o))
    ]

both_signs : {z : ℤ} → pos 0 <ℤ z → z ≤ℤ pos 0 → ⊥
both_signs {z} a b = omega (arith, ints)

-- what the searches for a rise at place t and for the run behind it know
pub record Found (sides : List ℤ) (t first count : ℕ) : Type 0 where
  pub place : t < length sides
  pub not_positive : side_at sides t ≤ℤ pos 0
  pub rises : pos 0 <ℤ side_at sides (after (length sides) t)
  pub next : first ≡ after (length sides) t
  pub within : count ≤ length sides
  pub positive : (u : ℕ) → u < count → pos 0 <ℤ side_at sides (shifted (length sides) first u)
  pub stop : count < length sides → side_at sides (shifted (length sides) first count) ≤ℤ pos 0
  pub negative : (s : ℕ) × s < length sides × side_at sides s <ℤ pos 0

pub found_run : (sides : List ℤ) (t first count : ℕ) → Found sides t first count → IsRun sides first count
found_run sides t first count f =
    let k = length sides in
    let la : first < k = omega (arith, f.next, after_below k t f.place) in
    let last : side_at sides (shifted k first (k - 1)) ≤ℤ pos 0 =
    subst (λ (i : ℕ). side_at sides i ≤ℤ pos 0) (sym (ap (λ (j : ℕ). shifted k j (k - 1)) f.next ∙ last_is k t f.place)) f.not_positive in
    let room : count < k = elim (same_or_not count k) [
      | inr ne ↦ omega (arith, f.within)
      | inl eq ↦ absurd (both_signs (f.positive (k - 1) (omega arith)) last)
    ] in
    let some : 0 < count = elim (same_or_not count 0) [
      | inr ne ↦ omega arith
      | inl eq ↦ absurd (both_signs f.rises (subst (λ (i : ℕ). side_at sides i ≤ℤ pos 0) (ap (shifted k first) eq ∙ first_is k first la ∙ f.next) (f.stop room)))
    ] in
    record {
      within = la;
      some = some;
      room = room;
      positive = f.positive;
      stop = f.stop room;
      last = last;
      negative = f.negative;
    }
