-- Counting the cells that have a direction.
use Rattle.std.proofs.Common.{◌≡◌, ℕ, zero, suc, ◌+◌, ◌<◌, ◌⊎◌, inl, inr, Bool, true, false, ◌&&◌, List, [], ◌∷◌, ◌++◌, length, take, arith, ap, refl, ◌∙◌, slice_index_or, cond}
use Rattle.std.specs.Prelude.{Any}
use Rattle.std.proofs.lemmas.List.Sums.{sum_by-append, sum_by-cons, count_by_more_yes, count_by_more_no}
use Rattle.vec_exact.specs.declared.RawMesh.{RawMesh}
use Rattle.vec_exact.specs.declared.Vec3.{Vec3}
use Rattle.cover_cells.specs.declared.cells.CellPlane.{CellPlane}
use Rattle.cover_cells.specs.Cells.{plane_of, is_positive, is_in_cell, cells_with}
use Rattle.cover_cells.specs.Splitting.{number_if, HasNoHalf, IsHalf}

module _ (sources : RawMesh) (target : List Vec3) where
  pub cells_with-append : (d : Vec3) (xs ys : List (List CellPlane)) → cells_with sources target d (xs ++ ys) ≡ cells_with sources target d xs + cells_with sources target d ys
  cells_with-append d xs ys = sum_by-append (λ c. cond (is_in_cell sources target d c) 1 0) xs ys

  cells_with-cons : (d : Vec3) (c : List CellPlane) (cs : List (List CellPlane)) → cells_with sources target d (c ∷ cs) ≡ cond (is_in_cell sources target d c) 1 0 + cells_with sources target d cs
  cells_with-cons d c cs = sum_by-cons (λ c. cond (is_in_cell sources target d c) 1 0) c cs

  -- ---- the halves of the first cells, and of one more
  none_step : (p h : Bool) (n m next : ℕ) → (p && h) ≡ false → (h ≡ true → next ≡ m + 1) → (h ≡ false → next ≡ m) → n ≡ number_if p m → n ≡ number_if p next
  none_step true true n m next e y z s = cc
  none_step true false n m next e y z s = omega (arith, z refl, s)
  none_step false h n m next e y z s = s

  some_step : (p h g : Bool) (n more m next : ℕ) → g ≡ (p && h) → (h ≡ true → next ≡ m + 1) → (h ≡ false → next ≡ m) → more ≡ n + cond g 1 0 → n ≡ number_if p m → more ≡ number_if p next
  some_step true true true n more m next e y z w s = omega (arith, y refl, w, s)
  some_step true true false n more m next e y z w s = cc
  some_step true false true n more m next e y z w s = cc
  some_step true false false n more m next e y z w s = omega (arith, z refl, w, s)
  some_step false h true n more m next e y z w s = cc
  some_step false h false n more m next e y z w s = omega (arith, w, s)

  -- the parts are the halves of the first i cells
  abbrev pub AreHalves : List (List CellPlane) → CellPlane → List (List CellPlane) → ℕ → Type 0
  AreHalves cells p parts i = (d : Vec3) → cells_with sources target d parts ≡ number_if (is_positive d (plane_of sources target p)) (cells_with sources target d (take i cells))

  pub next_none : (cells parts : List (List CellPlane)) (o : List CellPlane) (p : CellPlane) (i : ℕ) → i < length cells → slice_index_or cells i o ≡ o → HasNoHalf sources target o p
      → AreHalves cells p parts i → AreHalves cells p parts (i + 1)
  next_none cells parts o p i l e h s d =
      none_step (is_positive d (plane_of sources target p)) (is_in_cell sources target d o) (cells_with sources target d parts) (cells_with sources target d (take i cells)) (cells_with sources target d (take (i + 1) cells)) (h d)
      (λ y. count_by_more_yes (is_in_cell sources target d) cells i o l (ap (is_in_cell sources target d) e ∙ y))
      (λ z. count_by_more_no (is_in_cell sources target d) cells i o l (ap (is_in_cell sources target d) e ∙ z)) (s d)

  one_more : (d : Vec3) (parts : List (List CellPlane)) (part : List CellPlane) → cells_with sources target d (parts ++ part ∷ []) ≡ cells_with sources target d parts + cond (is_in_cell sources target d part) 1 0
  one_more d parts part = omega (arith, cells_with-append d parts (part ∷ []), cells_with-cons d part [])

  pub next_some : (cells parts : List (List CellPlane)) (o part : List CellPlane) (p : CellPlane) (i : ℕ) → i < length cells → slice_index_or cells i o ≡ o → IsHalf sources target o p part
      → AreHalves cells p parts i → AreHalves cells p (parts ++ part ∷ []) (i + 1)
  next_some cells parts o part p i l e h s d =
      some_step (is_positive d (plane_of sources target p)) (is_in_cell sources target d o) (is_in_cell sources target d part) (cells_with sources target d parts) (cells_with sources target d (parts ++ part ∷ []))
      (cells_with sources target d (take i cells)) (cells_with sources target d (take (i + 1) cells)) (h.same d)
      (λ y. count_by_more_yes (is_in_cell sources target d) cells i o l (ap (is_in_cell sources target d) e ∙ y))
      (λ z. count_by_more_no (is_in_cell sources target d) cells i o l (ap (is_in_cell sources target d) e ∙ z))
      (one_more d parts part) (s d)

  -- ---- a count and single cells
  -- a cell that has a direction counts
  pub counts_held : (d : Vec3) (cells : List (List CellPlane)) (k : ℕ) (e : List CellPlane) → k < length cells → is_in_cell sources target d (slice_index_or cells k e) ≡ true → 0 < cells_with sources target d cells
  counts_held d [] k e l h = absurd (omega arith)
  counts_held d (c ∷ cs) zero e l h = omega (arith, cells_with-cons d c cs, ap {B = ℕ} (λ (b : Bool). cond b 1 0) h)
  counts_held d (c ∷ cs) (suc k) e l h = omega (arith, cells_with-cons d c cs, counts_held d cs k e (omega arith) h)

  some_count : (b : Bool) (m : ℕ) → 0 < cond b 1 0 + m → (b ≡ true) ⊎ (0 < m)
  some_count true m h = inl refl
  some_count false m h = inr (omega arith)

  -- and where the count isn't zero, some cell has the direction
  pub held_counts : (d : Vec3) (cells : List (List CellPlane)) → 0 < cells_with sources target d cells → Any (λ c. is_in_cell sources target d c ≡ true) cells
  held_counts d [] h = absurd (omega (arith, h))
  held_counts d (c ∷ cs) h =
      elim (some_count (is_in_cell sources target d c) (cells_with sources target d cs) (omega (arith, cells_with-cons d c cs))) [
        | inl t ↦ (0, c, omega arith, refl, t)
        | inr n ↦ let r = held_counts d cs n in (suc r.0, r.1, omega (arith, r.2), r.3, r.4)
      ]
