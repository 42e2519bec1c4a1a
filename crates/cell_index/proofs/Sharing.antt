-- Boxes with a cell in common.
use Rattle.std.proofs.Common.{◌≡◌, ℕ, ◌+◌, ◌-◌, ◌<◌, ◌≤◌, int_le, arith, ap, refl, sym, ◌∙◌, inl, inr, subst, ◌↔◌, IsTrue, Bool, true, false, ◌&&◌, List, [], ◌∷◌, ◌++◌, length, get_or, Option, if◌then◌else◌}
use Rattle.std.specs.List.{Contains}
use Rattle.std.specs.List.Sorted.{IsStrictlyIncreasing}
use Rattle.std.proofs.lemmas.List.{get_or_append_left, get_or_push, length_push, get_or_default}
use Rattle.std.proofs.lemmas.List.Elements.{Contains-append_left, Contains-push, Contains-push_cases, Contains-get_or}
use Rattle.vec_exact.proofs.Cycles.{same_or_not}
use Rattle.cell_index.specs.declared.CellBox.{CellBox}
use Rattle.cell_index.specs.declared.Boxes.{Boxes}
use Rattle.cell_index.specs.Candidate.{RangesMeet}
use Rattle.cell_index.specs.IndexOf.{Share, panels, IsSharer}
use Rattle.cell_index.proofs.Places.{and_left, and_right, and_both, le_true, le_from}

pub ranges_decide : (x y : CellBox) → IsTrue (int_le x.u0 y.u1 && int_le y.u0 x.u1 && int_le x.v0 y.v1 && int_le y.v0 x.v1) ↔ RangesMeet x y
ranges_decide x y = (
  λ h.
      let a = and_left (int_le x.u0 y.u1 && int_le y.u0 x.u1 && int_le x.v0 y.v1) (int_le y.v0 x.v1) h in
      let b = and_left (int_le x.u0 y.u1 && int_le y.u0 x.u1) (int_le x.v0 y.v1) a in
      record {
        u_left = le_true x.u0 y.u1 (and_left _ (int_le y.u0 x.u1) b);
        u_right = le_true y.u0 x.u1 (and_right (int_le x.u0 y.u1) _ b);
        v_left = le_true x.v0 y.v1 (and_right (int_le x.u0 y.u1 && int_le y.u0 x.u1) _ a);
        v_right = le_true y.v0 x.v1 (and_right (int_le x.u0 y.u1 && int_le y.u0 x.u1 && int_le x.v0 y.v1) _ h);
      },
  λ o. and_both _ _ (and_both _ _ (and_both _ _ (le_from _ _ o.u_left) (le_from _ _ o.u_right)) (le_from _ _ o.v_left)) (le_from _ _ o.v_right),
)

-- found holds those of the first t places, counted from 1, that pass
pub record PickedSoFar (P : ℕ → Type 0) (t : ℕ) (found : List ℕ) : Type 0 where
  pub passes : (j : ℕ) → Contains found j → P j
  pub within : (j : ℕ) → Contains found j → (1 ≤ j) × (j ≤ t)
  pub all : (j : ℕ) → 1 ≤ j → j ≤ t → P j → Contains found j
  pub ascending : IsStrictlyIncreasing found

pub picked_none : (P : ℕ → Type 0) → PickedSoFar P 0 []
picked_none P = record {
  passes = λ j h. absurd (omega (arith, h.1));
  within = λ j h. absurd (omega (arith, h.1));
  all = λ j a b p. absurd (omega arith);
  ascending = λ k l. absurd (omega arith);
}

pub picked_skip : (P : ℕ → Type 0) (t : ℕ) (found : List ℕ) → PickedSoFar P t found → ¬ P (t + 1) → PickedSoFar P (t + 1) found
picked_skip P t found h n = record {
  passes = h.passes;
  within = λ j c. ((h.within j c).0, omega (arith, (h.within j c).1));
  all = λ j a b p. elim (same_or_not j (t + 1)) [ inl e ↦ absurd (n (subst P e p)) | inr ne ↦ h.all j a (omega arith) p ];
  ascending = h.ascending;
}

pub picked_push : (P : ℕ → Type 0) (t : ℕ) (found : List ℕ) → PickedSoFar P t found → P (t + 1) → PickedSoFar P (t + 1) (found ++ (t + 1) ∷ [])
picked_push P t found h p = record {
  passes = λ j c. elim (Contains-push_cases found (t + 1) j c) [ inl d ↦ h.passes j d | inr e ↦ subst P e p ];
  within = λ j c. elim (Contains-push_cases found (t + 1) j c) [ inl d ↦ ((h.within j d).0, omega (arith, (h.within j d).1)) | inr e ↦ (omega arith, omega arith) ];
  all = λ j a b q. elim (same_or_not j (t + 1)) [
    | inl e ↦ subst (λ (i : ℕ). Contains (found ++ (t + 1) ∷ []) i) (sym e) (Contains-push found (t + 1))
    | inr ne ↦ Contains-append_left found ((t + 1) ∷ []) j (h.all j a (omega arith) q)
  ];
  ascending = λ k l. elim (same_or_not (k + 1) (length found)) [
    | inl e ↦
        let a = get_or_append_left found ((t + 1) ∷ []) 0 k (omega (arith, length_push found (t + 1))) in
        let b = get_or_push found (t + 1) 0 (k + 1) (sym e) in
        let w = h.within (get_or found k 0) (Contains-get_or found k 0 (omega (arith, length_push found (t + 1)))) in
        omega (arith, a, b, w.1)
    | inr ne ↦
        let a = get_or_append_left found ((t + 1) ∷ []) 0 k (omega (arith, length_push found (t + 1))) in
        let b = get_or_append_left found ((t + 1) ∷ []) 0 (k + 1) (omega (arith, length_push found (t + 1))) in
        omega (arith, a, b, h.ascending k (omega (arith, length_push found (t + 1))))
  ];
}

-- all places
pub picked_members : (P : ℕ → Type 0) (t : ℕ) (found : List ℕ) → PickedSoFar P t found → ((j : ℕ) → P j → (1 ≤ j) × (j ≤ t)) → (j : ℕ) → Contains found j ↔ P j
picked_members P t found h b j = (h.passes j, λ p. h.all j (b j p).0 (b j p).1 p)

pub picked_step : (P : ℕ → Type 0) (t : ℕ) (found new : List ℕ) (b : Bool) → PickedSoFar P t found → IsTrue b ↔ P (t + 1) → new ≡ (if b then found ++ (t + 1) ∷ [] else found) → PickedSoFar P (t + 1) new
picked_step P t found new true h d e = subst (PickedSoFar P (t + 1)) (sym e) (picked_push P t found h (d.0 refl))
picked_step P t found new false h d e = subst (PickedSoFar P (t + 1)) (sym e) (picked_skip P t found h (λ p. false_true (d.1 p)))
  where
    false_true : false ≡ true → ⊥
    false_true q = cc

pub sharer_decides : (own : List (Option CellBox)) (bs : List Boxes) (t : ℕ) (o : Boxes) (b : Bool) → t < length bs → o ≡ get_or bs t o → IsTrue b ↔ Share own o.panel → IsTrue b ↔ IsSharer own bs (t + 1)
sharer_decides own bs t o b l e d =
    let q : panels bs (t + 1) ≡ o.panel = ap (λ (z : Boxes). z.panel) (ap (λ (i : ℕ). get_or bs i (record { panel = [] })) (let z : t + 1 - 1 ≡ t = omega arith in z) ∙ get_or_default bs t (record { panel = [] }) o l ∙ sym e) in (
      λ h. record { first = omega arith; last = omega arith; shares = subst (Share own) (sym q) (d.0 h) },
      λ s. d.1 (subst (Share own) q s.shares),
    )
