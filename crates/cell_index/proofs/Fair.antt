-- A box has a cell, on its panel.
use Rattle.std.proofs.Common.{◌≡◌, ℕ, zero, suc, ◌<◌, ℤ, pos, ◌≤ℤ◌, ◌<ℤ◌, int_lt, arith, ap, refl, sym, ◌∙◌, inl, inr, subst, Bool, false, List, None, Some, if◌then◌else◌}
use Rattle.std.proofs.lemmas.Int.{ints, clamps}
use Rattle.vec_exact.specs.declared.Vec3.{Vec3}
use Rattle.vec_exact.specs.declared.panels.Panel.{Panel}
use Rattle.vec_exact.specs.declared.panels.Panel.TheVariants.{PlusX, PlusY, MinusX, MinusY, PlusZ, MinusZ}
use Rattle.cell_index.specs.declared.CellBox.{CellBox}
use Rattle.cell_index.specs.Box.{is_beyond, is_in_front, range_of, is_empty, whole_panel, box_of, boxes}
use Rattle.cell_index.specs.IndexOf.{at_panel}
use Rattle.cell_index.specs.Kept.{IsPanelBox, AreBoxes}
use Rattle.cell_index.proofs.Places.{true_or_false, or_none}
use Rattle.cell_index.proofs.FaceNodes.{box_beyond, box_fitted, box_whole}

not_none : (b : CellBox) → None ≡ Some b → ⊥
not_none b h = cc

same_box : (a b : CellBox) → Some a ≡ Some b → a ≡ b
same_box a b h = cc

lt_not : (a b : ℤ) → int_lt a b ≡ false → b ≤ℤ a
lt_not a b h = grind (arith, ints)

range_fair : (vs : List Vec3) (p : Panel) (k : ℤ) → is_empty (range_of vs p k) ≡ false → IsPanelBox k (range_of vs p k)
unfolding range_of
range_fair vs p k h =
    let o = or_none _ _ h in
    record {
      u_low = omega (arith, ints, clamps);
      u_order = lt_not _ _ o.0;
      u_high = omega (arith, ints, clamps);
      v_low = omega (arith, ints, clamps);
      v_order = lt_not _ _ o.1;
      v_high = omega (arith, ints, clamps);
    }

whole_fair : (k : ℤ) → pos 0 <ℤ k → IsPanelBox k (whole_panel k)
whole_fair k h = record { u_low = omega (arith, ints); u_order = omega (arith, ints); u_high = omega (arith, ints); v_low = omega (arith, ints); v_order = omega (arith, ints); v_high = omega (arith, ints) }

unless_fair : (k : ℤ) (r b : CellBox) → (is_empty r ≡ false → IsPanelBox k r) → (if is_empty r then None else Some r) ≡ Some b → IsPanelBox k b
unless_fair k r b f h =
    elim (true_or_false (is_empty r)) [
      | inl e ↦ absurd (not_none b (ap (λ (t : Bool). if t then None else Some r) (sym e) ∙ h))
      | inr e ↦ subst (IsPanelBox k) (same_box r b (ap (λ (t : Bool). if t then None else Some r) (sym e) ∙ h)) (f e)
    ]

pub box_fair : (vs : List Vec3) (p : Panel) (k : ℤ) (b : CellBox) → pos 0 <ℤ k → box_of vs p k ≡ Some b → IsPanelBox k b
box_fair vs p k b pk h =
    elim (true_or_false (is_beyond vs p)) [
      | inl e ↦ absurd (not_none b (box_beyond vs p k e ∙ h))
      | inr e ↦ elim (true_or_false (is_in_front vs p)) [
        | inl f ↦ unless_fair k (range_of vs p k) b (range_fair vs p k) (box_fitted vs p k e f ∙ h)
        | inr f ↦ subst (IsPanelBox k) (same_box (whole_panel k) b (box_whole vs p k e f ∙ h)) (whole_fair k pk)
      ]
    ]

-- the panel whose box stands at place p
abbrev pub panel_of : ℕ → Panel
panel_of zero = PlusX
panel_of (suc zero) = PlusY
panel_of (suc (suc zero)) = MinusX
panel_of (suc (suc (suc zero))) = MinusY
panel_of (suc (suc (suc (suc zero)))) = PlusZ
panel_of (suc (suc (suc (suc (suc p))))) = MinusZ

abbrev pub place_of_panel : Panel → ℕ
place_of_panel PlusX = 0
place_of_panel PlusY = 1
place_of_panel MinusX = 2
place_of_panel MinusY = 3
place_of_panel PlusZ = 4
place_of_panel MinusZ = 5

pub place_below : (panel : Panel) → place_of_panel panel < 6
place_below PlusX = omega arith
place_below PlusY = omega arith
place_below MinusX = omega arith
place_below MinusY = omega arith
place_below PlusZ = omega arith
place_below MinusZ = omega arith

pub box_at_place : (vs : List Vec3) (k : ℤ) (panel : Panel) → at_panel (boxes vs k) (place_of_panel panel) ≡ box_of vs panel k
box_at_place vs k PlusX = refl
box_at_place vs k PlusY = refl
box_at_place vs k MinusX = refl
box_at_place vs k MinusY = refl
box_at_place vs k PlusZ = refl
box_at_place vs k MinusZ = refl

pub panel_at : (vs : List Vec3) (k : ℤ) (p : ℕ) → p < 6 → at_panel (boxes vs k) p ≡ box_of vs (panel_of p) k
panel_at vs k zero l = refl
panel_at vs k (suc zero) l = refl
panel_at vs k (suc (suc zero)) l = refl
panel_at vs k (suc (suc (suc zero))) l = refl
panel_at vs k (suc (suc (suc (suc zero)))) l = refl
panel_at vs k (suc (suc (suc (suc (suc zero))))) l = refl
panel_at vs k (suc (suc (suc (suc (suc (suc p)))))) l = absurd (omega arith)

pub boxes_fair : (vs : List Vec3) (k : ℤ) → pos 0 <ℤ k → AreBoxes k (boxes vs k)
boxes_fair vs k h p b l e = box_fair vs (panel_of p) k b h (sym (panel_at vs k p l) ∙ e)
