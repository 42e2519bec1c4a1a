use Rattle.std.proofs.Common.{◌≡◌, ◌*◌, ◌<◌, ◌≤◌, arith, FitsSigned, rules, ℤ, pos, neg_ℤ, ◌+ℤ◌, ◌-ℤ◌, ◌≤ℤ◌, unsigned_abs, ap, sym, subst, to_z, of_z}
use Rattle.std.proofs.lemmas.Int.{ints}
use mir.Syntax.{w32}
use Rattle.cell_index.specs.declared.CellBox.{CellBox}
use Rattle.cell_index.specs.declared.kept.CellRange.{CellRange}
use Rattle.cell_index.specs.Kept.{IsPanelBox, Fits, side, shifted}
use Rattle.cell_index.proofs.kept.shift.Goals as goal

range_eq : (a b : CellRange) → a.x0 ≡ b.x0 → a.x1 ≡ b.x1 → a.y0 ≡ b.y0 → a.y1 ≡ b.y1 → a ≡ b
range_eq a b p q r s = λ i. record { x0 = p i; x1 = q i; y0 = r i; y1 = s i }

read_sum : (a b : ℤ) → FitsSigned w32 a → FitsSigned w32 b → unsigned_abs a ≤ 256 → unsigned_abs b ≤ 256 → unsigned_abs (to_z w32 (of_z w32 (to_z w32 (of_z w32 a) +ℤ to_z w32 (of_z w32 b)))) ≡ unsigned_abs (a +ℤ b)
read_sum a b f g p q = ap unsigned_abs (let e : to_z w32 (of_z w32 (to_z w32 (of_z w32 a) +ℤ to_z w32 (of_z w32 b))) ≡ a +ℤ b = omega (arith, ints) in e)

shifted_fits : (k : ℤ) (b : CellBox) → pos 1 ≤ℤ k → IsPanelBox k b → Fits (side k) (shifted k b)
shifted_fits k b p h = record {
  x = high k b.u0 b.u1 p h.u_low h.u_order h.u_high;
  y = high k b.v0 b.v1 p h.v_low h.v_order h.v_high;
  x_order = order k b.u0 b.u1 h.u_low h.u_order;
  y_order = order k b.v0 b.v1 h.v_low h.v_order;
}
  where
    high : (k a b : ℤ) → pos 1 ≤ℤ k → neg_ℤ k ≤ℤ a → a ≤ℤ b → b ≤ℤ (k -ℤ pos 1) → unsigned_abs (b +ℤ k) < 2 * unsigned_abs k
    high k a b p l o h = omega (arith, ints)

    order : (k a b : ℤ) → neg_ℤ k ≤ℤ a → a ≤ℤ b → unsigned_abs (a +ℤ k) ≤ unsigned_abs (b +ℤ k)
    order k a b l o = omega (arith, ints)

pub returns-clause-value : goal.returns-clause-value
returns-clause-value c =
    let b = c.args.b in
    let g : FitsSigned w32 c.args.k = search rules in
    let f0 : FitsSigned w32 b.u0 = search rules in
    let f1 : FitsSigned w32 b.u1 = search rules in
    let f2 : FitsSigned w32 b.v0 = search rules in
    let f3 : FitsSigned w32 b.v1 = search rules in
    range_eq _ _ (read_sum b.u0 c.args.k f0 g (omega (arith, ints)) (omega (arith, ints))) (read_sum b.u1 c.args.k f1 g (omega (arith, ints)) (omega (arith, ints)))
    (read_sum b.v0 c.args.k f2 g (omega (arith, ints)) (omega (arith, ints))) (read_sum b.v1 c.args.k f3 g (omega (arith, ints)) (omega (arith, ints)))

pub returns-clause-fits : goal.returns-clause-fits
returns-clause-fits c = subst (Fits (side c.args.k)) (sym (returns-clause-value c)) (shifted_fits c.args.k c.args.b (omega (arith, ints)) c.requires.inside)
