-- What a search keeps, and that it misses nothing.
use Rattle.std.proofs.Common.{◌≡◌, ℕ, zero, suc, ◌+◌, ◌-◌, ◌*◌, ◌<◌, ◌≤◌, ℤ, pos, neg_ℤ, ◌+ℤ◌, ◌-ℤ◌, ◌≤ℤ◌, unsigned_abs, max, arith, ap, refl, sym, ◌∙◌, ◌⊎◌, inl, inr, subst, ◌↔◌, IsTrue, Bool, true, false, eqb, List, [], ◌∷◌, ◌++◌, length, get_or, Option, Some, None, if◌then◌else◌, IsPermutation, IfOk, Ok, Err}
use Rattle.std.proofs.lemmas.Int.{ints}
use Rattle.std.specs.declared.result.Result.{Result}
use Rattle.std.specs.List.{Contains, dedup}
use Rattle.std.proofs.lemmas.List.{get_or_default}
use Rattle.std.proofs.lemmas.List.Elements.{Contains-append_left, Contains-push, Contains-push_cases}
use Rattle.std.proofs.lemmas.List.Kept.{Contains-dedup_nat, Contains-from_dedup}
use Rattle.std.proofs.lemmas.List.Sorted.{Contains-permutation, IsPermutation-sym}
use Rattle.std.proofs.lemmas.Nat.{mul-le}
use Rattle.vec_exact.proofs.Cycles.{same_or_not, below_same_above}
use Rattle.cell_index.specs.declared.CellBox.{CellBox}
use Rattle.cell_index.specs.declared.Boxes.{Boxes}
use Rattle.cell_index.specs.declared.filling.Filling.{Filling}
use Rattle.cell_index.specs.declared.kept.CellRange.{CellRange}
use Rattle.cell_index.specs.declared.kept.Cells.{Cells}
use Rattle.cell_index.specs.Candidate.{RangesMeet, SharesCell}
use Rattle.cell_index.specs.IndexOf.{at_panel, panels, IsSharer}
use Rattle.cell_index.specs.Kept.{IsPanelBox, AreBoxes, AreAllBoxes, side, cell_count, shifted, Covers, place_of, AreRanges, InCell, IsFilling, ListsAll, IsComplete, IsPlaced, IsReached, Takes, Gathers, InPart, InRow, InRange, InBox, InPanels}
use Rattle.cell_index.proofs.Fillings.{rises}
use Rattle.cell_index.proofs.Added.{in_row}

pub takes_none : (own : List (Option CellBox)) (bs : List Boxes) (a : List ℕ) (Q : ℕ → Type 0) → ((j : ℕ) → ¬ Q j) → Takes own bs a a Q
takes_none own bs a Q h = record { keeps = λ j c. c; only = λ j c. inl c; all = λ j q s. absurd (h j q) }

pub takes_where : (own : List (Option CellBox)) (bs : List Boxes) (a b : List ℕ) (P Q : ℕ → Type 0) → Takes own bs a b P → ((j : ℕ) → Q j → P j) → Takes own bs a b Q
takes_where own bs a b P Q h f = record { keeps = h.keeps; only = h.only; all = λ j q s. h.all j (f j q) s }

pub takes_on : (own : List (Option CellBox)) (bs : List Boxes) (a b d : List ℕ) (P Q R : ℕ → Type 0) → Takes own bs a b P → Takes own bs b d Q → ((j : ℕ) → R j → P j ⊎ Q j) → Takes own bs a d R
takes_on own bs a b d P Q R h g f = record {
  keeps = λ j c. g.keeps j (h.keeps j c);
  only = λ j c. elim (g.only j c) [ inl e ↦ h.only j e | inr s ↦ inr s ];
  all = λ j r s. elim (f j r) [ inl p ↦ g.keeps j (h.all j p s) | inr q ↦ g.all j q s ];
}

-- ---- one face
takes_skip : (own : List (Option CellBox)) (bs : List Boxes) (a : List ℕ) (x : ℕ) → ¬ IsSharer own bs x → Takes own bs a a (λ j. x ≡ j)
takes_skip own bs a x n = record { keeps = λ j c. c; only = λ j c. inl c; all = λ j e s. absurd (n (subst (IsSharer own bs) (sym e) s)) }

takes_push : (own : List (Option CellBox)) (bs : List Boxes) (a : List ℕ) (x : ℕ) → IsSharer own bs x → Takes own bs a (a ++ x ∷ []) (λ j. x ≡ j)
takes_push own bs a x h = record {
  keeps = λ j c. Contains-append_left a (x ∷ []) j c;
  only = λ j c. elim (Contains-push_cases a x j c) [ inl d ↦ inl d | inr e ↦ inr (subst (IsSharer own bs) e h) ];
  all = λ j e s. subst (λ (i : ℕ). Contains (a ++ x ∷ []) i) e (Contains-push a x);
}

takes_one : (own : List (Option CellBox)) (bs : List Boxes) (a b : List ℕ) (x : ℕ) (t : Bool) → IsTrue t ↔ IsSharer own bs x → b ≡ (if t then a ++ x ∷ [] else a) → Takes own bs a b (λ j. x ≡ j)
takes_one own bs a b x true d e = subst (λ (z : List ℕ). Takes own bs a z (λ j. x ≡ j)) (sym e) (takes_push own bs a x (d.0 refl))
takes_one own bs a b x false d e = subst (λ (z : List ℕ). Takes own bs a z (λ j. x ≡ j)) (sym e) (takes_skip own bs a x (λ s. false_true (d.1 s)))
  where
    false_true : false ≡ true → ⊥
    false_true q = cc

-- ---- a part of a list
no_part : (faces : List ℕ) (t j : ℕ) → ¬ InPart faces t t j
no_part faces t j h = omega (arith, h.low, h.high)

pub part_start : (own : List (Option CellBox)) (bs : List Boxes) (a faces : List ℕ) (t : ℕ) → Takes own bs a a (InPart faces t t)
part_start own bs a faces t = takes_none own bs a (InPart faces t t) (no_part faces t)

pub part_more : (own : List (Option CellBox)) (bs : List Boxes) (a b d faces : List ℕ) (from t x : ℕ) (w : Bool) → Takes own bs a b (InPart faces from t) → x ≡ get_or faces t 0 → IsTrue w ↔ IsSharer own bs x
    → d ≡ (if w then b ++ x ∷ [] else b) → Takes own bs a d (InPart faces from (t + 1))
part_more own bs a b d faces from t x w h e s n =
    takes_on own bs a b d (InPart faces from t) (λ j. x ≡ j) (InPart faces from (t + 1)) h (takes_one own bs b d x w s n) split
  where
    split : (j : ℕ) → InPart faces from (t + 1) j → InPart faces from t j ⊎ (x ≡ j)
    split j p = elim (same_or_not p.place t) [
      | inl q ↦ inr (e ∙ ap (λ (i : ℕ). get_or faces i 0) (sym q) ∙ p.is)
      | inr ne ↦ inl (record { place = p.place; low = p.low; high = omega (arith, p.high, ne); is = p.is })
    ]

-- ---- all faces of some places, without a test
pub gathers_none : (a : List ℕ) (Q : ℕ → Type 0) → ((j : ℕ) → ¬ Q j) → Gathers a a Q
gathers_none a Q h = record { keeps = λ j c. c; only = λ j c. inl c; all = λ j l q. absurd (h j q) }

pub gathers_where : (a b : List ℕ) (P Q : ℕ → Type 0) → Gathers a b P → ((j : ℕ) → P j → Q j) → ((j : ℕ) → Q j → P j) → Gathers a b Q
gathers_where a b P Q h f g = record {
  keeps = h.keeps;
  only = λ j c. elim (h.only j c) [ inl d ↦ inl d | inr w ↦ inr (w.0, f j w.1) ];
  all = λ j l q. h.all j l (g j q);
}

pub gathers_on : (a b d : List ℕ) (P Q R : ℕ → Type 0) → Gathers a b P → Gathers b d Q → ((j : ℕ) → R j → P j ⊎ Q j) → ((j : ℕ) → P j → R j) → ((j : ℕ) → Q j → R j) → Gathers a d R
gathers_on a b d P Q R h g f u v = record {
  keeps = λ j c. g.keeps j (h.keeps j c);
  only = λ j c. elim (g.only j c) [
    | inr w ↦ inr (w.0, v j w.1)
    | inl e ↦ elim (h.only j e) [ inl o ↦ inl o | inr w ↦ inr (w.0, u j w.1) ]
  ];
  all = λ j l r. elim (f j r) [ inl p ↦ g.keeps j (h.all j l p) | inr q ↦ g.all j l q ];
}

pub gathers_skip : (a : List ℕ) (x : ℕ) → ¬ (1 ≤ x) → Gathers a a (λ j. x ≡ j)
gathers_skip a x n = record { keeps = λ j c. c; only = λ j c. inl c; all = λ j l e. absurd (n (omega (arith, l, e))) }

pub gathers_push : (a : List ℕ) (x : ℕ) → 1 ≤ x → Gathers a (a ++ x ∷ []) (λ j. x ≡ j)
gathers_push a x l = record {
  keeps = λ j c. Contains-append_left a (x ∷ []) j c;
  only = λ j c. elim (Contains-push_cases a x j c) [ inl d ↦ inl d | inr e ↦ inr (omega (arith, l, e), e) ];
  all = λ j m e. subst (λ (i : ℕ). Contains (a ++ x ∷ []) i) e (Contains-push a x);
}

pub gathers_known : (a : List ℕ) (x : ℕ) → Contains a x → Gathers a a (λ j. x ≡ j)
gathers_known a x c = record { keeps = λ j d. d; only = λ j d. inl d; all = λ j l e. subst (λ (i : ℕ). Contains a i) e c }

pub gathers_start : (a faces : List ℕ) (t : ℕ) → Gathers a a (InPart faces t t)
gathers_start a faces t = gathers_none a (InPart faces t t) (no_part faces t)

pub gathers_more : (a b d faces : List ℕ) (from t x : ℕ) → from ≤ t → Gathers a b (InPart faces from t) → x ≡ get_or faces t 0 → Gathers b d (λ j. x ≡ j) → Gathers a d (InPart faces from (t + 1))
gathers_more a b d faces from t x low h e g =
    gathers_on a b d (InPart faces from t) (λ j. x ≡ j) (InPart faces from (t + 1)) h g split
    (λ j q. record { place = q.place; low = q.low; high = omega (arith, q.high); is = q.is })
    (λ j q. record { place = t; low = low; high = omega arith; is = sym e ∙ q })
  where
    split : (j : ℕ) → InPart faces from (t + 1) j → InPart faces from t j ⊎ (x ≡ j)
    split j p = elim (same_or_not p.place t) [
      | inl q ↦ inr (e ∙ ap (λ (i : ℕ). get_or faces i 0) (sym q) ∙ p.is)
      | inr ne ↦ inl (record { place = p.place; low = p.low; high = omega (arith, p.high, ne); is = p.is })
    ]

-- ---- a row of cells
pub row_in_part : (cells : Cells) (first last from to : ℕ) → AreRanges cells.starts.items (length cells.faces.items) → last + 1 < length cells.starts.items → from ≡ get_or cells.starts.items first 0 → to ≡ get_or cells.starts.items (last + 1) 0
    → (j : ℕ) → InRow cells first last j → InPart cells.faces.items from to j
row_in_part cells first last from to h l e f j r =
    let starts = cells.starts.items in
    let room = length cells.faces.items in
    let a = rises starts room first r.cell h r.low (omega (arith, l, r.high)) in
    let b = rises starts room (r.cell + 1) (last + 1) h (omega (arith, r.high)) l in
    record { place = r.stands.place; low = omega (arith, e, a, r.stands.from); high = omega (arith, f, b, r.stands.to); is = r.stands.is }

-- the cell in whose range a place lies
record IsPlaceOf (starts : List ℕ) (first last w : ℕ) : Type 0 where
  cell : ℕ
  low : first ≤ cell
  high : cell ≤ last
  from : get_or starts cell 0 ≤ w
  to : w < get_or starts (cell + 1) 0

cell_of_place : (starts : List ℕ) (first n w : ℕ) → get_or starts first 0 ≤ w → w < get_or starts (first + n + 1) 0 → IsPlaceOf starts first (first + n) w
cell_of_place starts first zero w a b =
    record { cell = first; low = omega arith; high = omega arith; from = a; to = subst (λ (i : ℕ). w < get_or starts i 0) (let e : first + zero + 1 ≡ first + 1 = omega arith in e) b }
cell_of_place starts first (suc n) w a b =
    elim (below_or_not w (get_or starts (first + n + 1) 0)) [
      | inl l ↦ let r = cell_of_place starts first n w a l in record { cell = r.cell; low = r.low; high = omega (arith, r.high); from = r.from; to = r.to }
      | inr m ↦ record {
        cell = first + suc n;
        low = omega arith;
        high = omega arith;
        from = subst (λ (i : ℕ). get_or starts i 0 ≤ w) (let e : first + n + 1 ≡ first + suc n = omega arith in e) m;
        to = b;
      }
    ]
  where
    below_or_not : (a b : ℕ) → (a < b) ⊎ (b ≤ a)
    below_or_not a b = grind arith

pub part_in_row : (cells : Cells) (first last from to : ℕ) → first ≤ last → from ≡ get_or cells.starts.items first 0 → to ≡ get_or cells.starts.items (last + 1) 0 → (j : ℕ) → InPart cells.faces.items from to j → InRow cells first last j
part_in_row cells first last from to l e f j p =
    let q : last + 1 ≡ first + (last - first) + 1 = omega arith in
    let b : p.place < get_or cells.starts.items (last + 1) 0 = omega (arith, f, p.high) in
    let r = cell_of_place cells.starts.items first (last - first) p.place (omega (arith, e, p.low)) (subst (λ (i : ℕ). p.place < get_or cells.starts.items i 0) q b) in
    record { cell = r.cell; low = r.low; high = omega (arith, r.high, l); stands = record { place = p.place; from = r.from; to = r.to; is = p.is } }

-- ---- a range
pub record InRows (cells : Cells) (s p : ℕ) (r : CellRange) (n j : ℕ) : Type 0 where
  pub range : InRange cells s p r j
  pub below : range.x < n

pub rows_start : (a : List ℕ) (cells : Cells) (s p : ℕ) (r : CellRange) → Gathers a a (InRows cells s p r r.x0)
rows_start a cells s p r = gathers_none a (InRows cells s p r r.x0) (λ j h. omega (arith, h.below, h.range.covers.x_low))

pub rows_more : (a b d : List ℕ) (cells : Cells) (s p : ℕ) (r : CellRange) (x first last : ℕ) → r.x0 ≤ x → x ≤ r.x1 → Gathers a b (InRows cells s p r x) → first ≡ place_of s p x r.y0 → last ≡ place_of s p x r.y1
    → Gathers b d (InRow cells first last) → Gathers a d (InRows cells s p r (x + 1))
rows_more a b d cells s p r x first last lo hi h e f g =
    gathers_on a b d (InRows cells s p r x) (InRow cells first last) (InRows cells s p r (x + 1)) h g split
    (λ j q. record { range = q.range; below = omega (arith, q.below) })
    (λ j q. record { range = in_range j q; below = omega arith })
  where
    split : (j : ℕ) → InRows cells s p r (x + 1) j → InRows cells s p r x j ⊎ InRow cells first last j
    split j q = elim (same_or_not q.range.x x) [
      | inl z ↦
          let c = subst (λ (i : ℕ). InCell cells (place_of s p i q.range.y) j) z q.range.stands in
          inr (record { cell = place_of s p x q.range.y; low = omega (arith, e, q.range.covers.y_low); high = omega (arith, f, q.range.covers.y_high); stands = c })
      | inr ne ↦ inl (record { range = q.range; below = omega (arith, q.below, ne) })
    ]

    in_range : (j : ℕ) → InRow cells first last j → InRange cells s p r j
    in_range j q =
        let c = in_row s p r x q.cell lo hi (omega (arith, q.low, e)) (omega (arith, q.high, f)) in
        record { x = c.x; y = c.y; covers = c.covers; stands = subst (λ (i : ℕ). InCell cells i j) c.is q.stands }

pub all_rows : (cells : Cells) (s p : ℕ) (r : CellRange) (n : ℕ) → r.x1 + 1 ≤ n → (j : ℕ) → InRange cells s p r j → InRows cells s p r n j
all_rows cells s p r n l j q = record { range = q; below = omega (arith, l, q.covers.x_high) }

-- ---- boxes
pub no_box : (cells : Cells) (k : ℤ) (p : ℕ) (own : Option CellBox) → own ≡ None → (j : ℕ) → ¬ InBox cells k p own j
no_box cells k p own e j h = none h.box (sym e ∙ h.is)
  where
    none : (b : CellBox) → None ≡ Some b → ⊥
    none b q = cc

pub box_in_range : (cells : Cells) (k : ℤ) (p : ℕ) (own : Option CellBox) (b : CellBox) (r : CellRange) → own ≡ Some b → r ≡ shifted k b → (j : ℕ) → InBox cells k p own j → InRange cells (side k) p r j
box_in_range cells k p own b r e s j h =
    let q : h.box ≡ b = same h.box b (sym h.is ∙ e) in
    subst (λ (z : CellRange). InRange cells (side k) p z j) (ap (shifted k) q ∙ sym s) h.stands
  where
    same : (a b : CellBox) → Some a ≡ Some b → a ≡ b
    same a b z = cc

pub range_in_box : (cells : Cells) (k : ℤ) (p : ℕ) (own : Option CellBox) (b : CellBox) (r : CellRange) → own ≡ Some b → r ≡ shifted k b → (j : ℕ) → InRange cells (side k) p r j → InBox cells k p own j
range_in_box cells k p own b r e s j h = record { box = b; is = e; stands = subst (λ (z : CellRange). InRange cells (side k) p z j) s h }

pub panels_start : (a : List ℕ) (cells : Cells) (k : ℤ) (own : List (Option CellBox)) → Gathers a a (InPanels cells k own 0)
panels_start a cells k own = gathers_none a (InPanels cells k own 0) (λ j h. omega (arith, h.below))

pub panels_more : (a b d : List ℕ) (cells : Cells) (k : ℤ) (own : List (Option CellBox)) (n : ℕ) → Gathers a b (InPanels cells k own n) → Gathers b d (InBox cells k n (at_panel own n)) → Gathers a d (InPanels cells k own (n + 1))
panels_more a b d cells k own n h g =
    gathers_on a b d (InPanels cells k own n) (InBox cells k n (at_panel own n)) (InPanels cells k own (n + 1)) h g split
    (λ j q. record { panel = q.panel; below = omega (arith, q.below); stands = q.stands })
    (λ j q. record { panel = n; below = omega arith; stands = q })
  where
    split : (j : ℕ) → InPanels cells k own (n + 1) j → InPanels cells k own n j ⊎ InBox cells k n (at_panel own n) j
    split j q = elim (same_or_not q.panel n) [
      | inl e ↦ inr (subst (λ (i : ℕ). InBox cells k i (at_panel own i) j) e q.stands)
      | inr ne ↦ inl (record { panel = q.panel; below = omega (arith, q.below, ne); stands = q.stands })
    ]

-- ---- who stands in a cell of these boxes shares it
digits : (s a b x y : ℕ) → x < s → y < s → a * s + x ≡ b * s + y → (a ≡ b) × (x ≡ y)
digits s a b x y l m e =
    elim (below_same_above a b) [
      | inl o ↦ absurd (omega (arith, l, e, mul-le (a + 1) s b s (omega (arith, o)) (omega arith)))
      | inr o ↦ elim o [
        | inl q ↦ let r = ap (λ (i : ℕ). i * s) q in (q, omega (arith, e, r))
        | inr g ↦ absurd (omega (arith, m, e, mul-le (b + 1) s a s (omega (arith, g)) (omega arith)))
      ]
    ]

within_side : (k : ℤ) (b : CellBox) (x y : ℕ) → pos 1 ≤ℤ k → IsPanelBox k b → Covers (shifted k b) x y → (x < side k) × (y < side k)
within_side k b x y l h v = (below k b.u0 b.u1 x l h.u_low h.u_order h.u_high v.x_high, below k b.v0 b.v1 y l h.v_low h.v_order h.v_high v.y_high)
  where
    below : (k a b : ℤ) (x : ℕ) → pos 1 ≤ℤ k → neg_ℤ k ≤ℤ a → a ≤ℤ b → b ≤ℤ (k -ℤ pos 1) → x ≤ unsigned_abs (b +ℤ k) → x < 2 * unsigned_abs k
    below k a b x p l o h v = omega (arith, ints)

ranges_meet : (k : ℤ) (a b : CellBox) (x y : ℕ) → IsPanelBox k a → IsPanelBox k b → Covers (shifted k a) x y → Covers (shifted k b) x y → RangesMeet a b
ranges_meet k a b x y p q v w = record {
  u_left = order k a.u0 b.u0 b.u1 x p.u_low q.u_low q.u_order v.x_low w.x_high;
  u_right = order k b.u0 a.u0 a.u1 x q.u_low p.u_low p.u_order w.x_low v.x_high;
  v_left = order k a.v0 b.v0 b.v1 y p.v_low q.v_low q.v_order v.y_low w.y_high;
  v_right = order k b.v0 a.v0 a.v1 y q.v_low p.v_low p.v_order w.y_low v.y_high;
}
  where
    order : (k a c b : ℤ) (x : ℕ) → neg_ℤ k ≤ℤ a → neg_ℤ k ≤ℤ c → c ≤ℤ b → unsigned_abs (a +ℤ k) ≤ x → x ≤ unsigned_abs (b +ℤ k) → a ≤ℤ b
    order k a c b x p q o v w = omega (arith, ints)

shares_with : (a b : Option CellBox) (x y : CellBox) → a ≡ Some x → b ≡ Some y → RangesMeet x y → SharesCell a b
shares_with a b x y e f o = subst (λ (z : Option CellBox). SharesCell z b) (sym e) (subst (λ (z : Option CellBox). SharesCell (Some x) z) (sym f) o)

panels_share : (k : ℤ) (own : List (Option CellBox)) (bs : List Boxes) (cells : Cells) (j : ℕ) → IsComplete k bs cells → AreBoxes k own → 1 ≤ j → InPanels cells k own 6 j → IsSharer own bs j
panels_share k own bs cells j h a l i =
    let p = i.panel in
    let b = i.stands.box in
    let st = i.stands.stands in
    let fair = a p b i.below i.stands.is in
    let r = h.sound (place_of (side k) p st.x st.y) j l st.stands in
    let q = r.cell.panel in
    let d = r.cell.cell.box in
    let t = r.cell.cell.cell in
    let other = h.boxes j r.first r.last q d r.cell.below r.cell.cell.is in
    let m = within_side k b st.x st.y h.least fair st.covers in
    let n = within_side k d t.x t.y h.least other t.covers in
    let low = digits (side k) (p * side k + st.x) (q * side k + t.x) st.y t.y m.1 n.1 t.is in
    let high = digits (side k) p q st.x t.x m.0 n.0 low.0 in
    let v = subst (λ (z : ℕ). Covers (shifted k d) z st.y) (sym high.1) (subst (λ (z : ℕ). Covers (shifted k d) t.x z) (sym low.1) t.covers) in
    let e = subst (λ (z : ℕ). at_panel (panels bs j) z ≡ Some d) (sym high.0) r.cell.cell.is in
    record {
      first = l;
      last = r.last;
      shares = (p, i.below, shares_with (at_panel own p) (at_panel (panels bs j) p) b d i.stands.is e (ranges_meet k b d st.x st.y fair other st.covers v));
    }

-- ---- nothing is missed
shares_some : (a b : Option CellBox) → SharesCell a b → (x : CellBox) × (y : CellBox) × (a ≡ Some x) × (b ≡ Some y) × RangesMeet x y
shares_some (Some x) (Some y) o = (x, y, refl, refl, o)
shares_some (Some x) None o = absurd o
shares_some None b o = absurd o

-- two boxes that share a cell
common_cell : (k : ℤ) (x y : CellBox) → IsPanelBox k x → IsPanelBox k y → RangesMeet x y → (i : ℕ) × (j : ℕ) × Covers (shifted k x) i j × Covers (shifted k y) i j
common_cell k x y p q o = (
  max (shifted k x).x0 (shifted k y).x0,
  max (shifted k x).y0 (shifted k y).y0,
  record { x_low = omega arith; x_high = top k x.u0 x.u1 y.u0 p.u_low p.u_order q.u_low o.u_right; y_low = omega arith; y_high = top k x.v0 x.v1 y.v0 p.v_low p.v_order q.v_low o.v_right },
  record { x_low = omega arith; x_high = other k y.u0 y.u1 x.u0 q.u_low q.u_order p.u_low o.u_left; y_low = omega arith; y_high = other k y.v0 y.v1 x.v0 q.v_low q.v_order p.v_low o.v_left },
)
  where
    top : (k a b c : ℤ) → neg_ℤ k ≤ℤ a → a ≤ℤ b → neg_ℤ k ≤ℤ c → c ≤ℤ b → max (unsigned_abs (a +ℤ k)) (unsigned_abs (c +ℤ k)) ≤ unsigned_abs (b +ℤ k)
    top k a b c p q r s = omega (arith, ints)

    other : (k a b c : ℤ) → neg_ℤ k ≤ℤ a → a ≤ℤ b → neg_ℤ k ≤ℤ c → c ≤ℤ b → max (unsigned_abs (c +ℤ k)) (unsigned_abs (a +ℤ k)) ≤ unsigned_abs (b +ℤ k)
    other k a b c p q r s = omega (arith, ints)

-- who shares a cell stands in one of the cells of these boxes, or among the large ones
in_reach : (k : ℤ) (own : List (Option CellBox)) (bs : List Boxes) (cells : Cells) (j : ℕ) → IsComplete k bs cells → AreBoxes k own → IsSharer own bs j → InPanels cells k own 6 j ⊎ Contains cells.large.items j
in_reach k own bs cells j h a s =
    let p = s.shares.0 in
    let lt = s.shares.1 in
    let m = shares_some (at_panel own p) (at_panel (panels bs j) p) s.shares.2 in
    let c = common_cell k m.0 m.1 (a p m.0 lt m.2) (h.boxes j s.first s.last p m.1 lt m.3) m.4 in
    elim (h.stands j p m.1 c.0 c.1 s.first s.last lt m.3 c.3) [
      | inl i ↦ inl (record { panel = p; below = lt; stands = record { box = m.0; is = m.2; stands = record { x = c.0; y = c.1; covers = c.2; stands = i } } })
      | inr l ↦ inr l
    ]

in_whole : (large : List ℕ) (n j : ℕ) → length large ≤ n → Contains large j → InPart large 0 n j
in_whole large n j l c = record { place = c.0; low = omega arith; high = omega (arith, l, c.1); is = at_place large j c }
  where
    at_place : (xs : List ℕ) (x : ℕ) → (c : Contains xs x) → get_or xs c.0 0 ≡ x
    at_place xs x c = get_or_default xs c.0 0 x c.1 ∙ c.2

-- the search has exactly those that share a cell
pub found_members : (k : ℤ) (own : List (Option CellBox)) (bs : List Boxes) (cells : Cells) (none some found sorted final : List ℕ) (n : ℕ) → IsComplete k bs cells → AreBoxes k own → none ≡ [] → length cells.large.items ≤ n
    → Takes own bs none some (InPart cells.large.items 0 n) → Gathers some found (InPanels cells k own 6) → IsPermutation found sorted → final ≡ dedup eqb sorted → (j : ℕ) → Contains final j ↔ IsSharer own bs j
found_members k own bs cells none some found sorted final n h a e l t u m d j = (to, back)
  where
    from_none : (xs : List ℕ) → xs ≡ [] → Contains xs j → ⊥
    from_none xs q c = omega (arith, (subst (λ (z : List ℕ). Contains z j) q c).1)

    to : Contains final j → IsSharer own bs j
    to c =
        let i = Contains-permutation sorted found j (IsPermutation-sym found sorted m) (Contains-from_dedup eqb sorted j (subst (λ (z : List ℕ). Contains z j) d c)) in
        elim (u.only j i) [
          | inr s ↦ panels_share k own bs cells j h a s.0 s.1
          | inl b ↦ elim (t.only j b) [
            | inr s ↦ s
            | inl z ↦ absurd (from_none none e z)
          ]
        ]

    here : IsSharer own bs j → Contains found j
    here s =
        elim (in_reach k own bs cells j h a s) [
          | inl i ↦ u.all j s.first i
          | inr z ↦ u.keeps j (t.all j (in_whole cells.large.items n j l z) s)
        ]

    back : IsSharer own bs j → Contains final j
    back s = subst (λ (z : List ℕ). Contains z j) (sym d) (Contains-dedup_nat sorted j (Contains-permutation found sorted j m (here s)))

-- ---- a filling that lists every face is complete
pub complete_of : (k : ℤ) (bs : List Boxes) (f : Filling) (cells : Cells) → pos 1 ≤ℤ k → k ≤ℤ pos 256 → IsFilling f → length f.ends.items ≡ cell_count k → AreAllBoxes k bs → ListsAll k f bs → ((c j : ℕ) → 1 ≤ j → IsPlaced f c j → IsReached k bs (length bs) c j) → cells.starts.items ≡ f.starts.items → cells.faces.items ≡ f.faces.items
    → cells.large.items ≡ f.large.items → IsComplete k bs cells
complete_of k bs f cells a b h n o l m p q r = record {
  least = a;
  greatest = b;
  count = omega (arith, ap length p, h.count, n);
  ranges = subst (λ (z : List ℕ). AreRanges z (length cells.faces.items)) (sym p) (subst (λ (z : List ℕ). AreRanges f.starts.items (length z)) (sym q) h.ranges);
  boxes = o;
  stands = λ j t c x y lo hi lt e v. elim (l j lo hi t lt c x y e v) [
    | inr i ↦ inr (subst (λ (z : List ℕ). Contains z j) (sym r) i)
    | inl i ↦
        inl (record {
          place = i.place;
          from = subst (λ (z : List ℕ). get_or z (place_of (side k) t x y) 0 ≤ i.place) (sym p) i.from;
          to = subst (λ (z : List ℕ). i.place < get_or z (place_of (side k) t x y + 1) 0) (sym p) i.to;
          is = ap (λ (z : List ℕ). get_or z i.place 0) q ∙ i.is;
        })
  ];
  sound = λ c j lo i. m c j lo (record {
    place = i.place;
    from = subst (λ (z : List ℕ). get_or z c 0 ≤ i.place) p i.from;
    to = subst (λ (z : List ℕ). i.place < get_or z (c + 1) 0) p i.to;
    is = sym (ap (λ (z : List ℕ). get_or z i.place 0) q) ∙ i.is;
  });
}

pub if_ok : {T E : Type 0} {P Q : T → Type 0} → (r : Result T E) → IfOk r P → ((v : T) → P v → Q v) → IfOk r Q
if_ok (Ok x) h f = f x h
if_ok (Err e) h f = tt
