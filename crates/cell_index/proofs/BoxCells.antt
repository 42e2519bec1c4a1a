-- The cell of a direction inside a face lies in the box of the face.
use Rattle.std.proofs.Common.{◌≡◌, ℕ, ◌+◌, ◌-◌, ◌<◌, ℤ, pos, negsuc, neg_ℤ, ◌+ℤ◌, ◌-ℤ◌, ◌*ℤ◌, ◌≤ℤ◌, ◌<ℤ◌, unsigned_abs, arith, ap, refl, sym, ◌∙◌, inl, inr, subst, Bool, true, false, ◌||◌, List, length, Some, Option, int_lt}
use Rattle.std.proofs.lemmas.Int.{ints, clamps}
use Rattle.std.proofs.Math.IntN.{*ℤ_comm}
use Rattle.std.specs.Int.{int_min, int_max}
use Rattle.vec_exact.specs.declared.Vec3.{Vec3}
use Rattle.vec_exact.specs.declared.panels.Panel.{Panel}
use Rattle.vec_exact.specs.Vector.{zero_triple, inner}
use Rattle.vec_exact.specs.Panel.{on_panel}
use Rattle.vec_exact.specs.Cycle.{edge_plane, Convex, vector_at}
use Rattle.vec_exact.proofs.Accepted.{accepted_convex}
use Rattle.cone_laws.specs.Cone.{AllPositive}
use Rattle.vec_exact.proofs.Signs.{nonneg_times, nonneg_cancel, pos_times, square_nonneg, by_sign, by_strict_sign}
use Rattle.vec_exact.proofs.Whole.{neg_times, one_times, zero_times, times_sum}
use Rattle.vec_exact.proofs.Terms.{vec_eq}
use Rattle.vec_exact.proofs.Identities.{inner_zero}
use Rattle.cone_laws.proofs.LinearForms.{nonneg_in_closure, positive_inside}
use Rattle.vec_exact.proofs.Cycles.{same_or_not}
use Rattle.cell_index.specs.declared.CellBox.{CellBox}
use Rattle.cell_index.specs.Box.{seen_from, least, greatest, seen, beyond_u_end, beyond_u_start, beyond_v_end, beyond_v_start, is_beyond, is_in_front, floor_of, range_of, is_empty, whole_panel, box_of}
use Rattle.cell_index.specs.Candidate.{RangesMeet, SharesCell, LawMeetsIsCandidate}
use Rattle.cell_index.proofs.Floors.{floor_is, floor_at_least, floor_below, at_least_floor, below_floor}
use Rattle.cell_index.proofs.PanelForms.{inner_form, form_self, IsOn, panel_for}
use Rattle.cell_index.proofs.Places.{true_or_false, or_cases, every_at, least_at, greatest_at, le_true, lt_true, lt_false}

-- the forms `a * w + b * s`, for s one of the two directions of a panel
pub record Axis (w s : Vec3 → ℤ) : Type 0 where
  pub form : ℤ → ℤ → Vec3
  pub value : (a b : ℤ) (d : Vec3) → inner (form a b) d ≡ a *ℤ w d +ℤ b *ℤ s d
  pub self : (a b : ℤ) → inner (form a b) (form a b) ≡ a *ℤ a +ℤ b *ℤ b

abbrev across : Panel → Vec3 → ℤ
across p d = (seen_from p d).w

abbrev along_u : Panel → Vec3 → ℤ
along_u p d = (seen_from p d).u

abbrev along_v : Panel → Vec3 → ℤ
along_v p d = (seen_from p d).v

u_axis : (p : Panel) → Axis (across p) (along_u p)
u_axis p = record {
  form = λ a b. on_panel p a b (pos 0);
  value = λ a b d. omega (arith, ints, inner_form p a b (pos 0) d, zero_times (seen_from p d).v);
  self = λ a b. omega (arith, ints, form_self p a b (pos 0));
}

v_axis : (p : Panel) → Axis (across p) (along_v p)
v_axis p = record {
  form = λ a b. on_panel p a (pos 0) b;
  value = λ a b d. omega (arith, ints, inner_form p a (pos 0) b d, zero_times (seen_from p d).u);
  self = λ a b. omega (arith, ints, form_self p a (pos 0) b);
}

-- d is inside the face with the m nodes f
pub record IsIn (m : ℕ) (f : ℕ → Vec3) (d : Vec3) : Type 0 where
  pub convex : Convex m f
  pub inside : AllPositive m (edge_plane m f) d

weakly : {m : ℕ} {f : ℕ → Vec3} {d : Vec3} → IsIn m f d → (t : ℕ) → t < m → pos 0 ≤ℤ inner (edge_plane m f t) d
weakly h t l = omega (arith, ints, h.inside t l)

-- `a * w + b * s` is not negative, or positive, at d if it is so at the nodes
form_nonneg : (w s : Vec3 → ℤ) (m : ℕ) (f : ℕ → Vec3) (d : Vec3) (a b : ℤ) → Axis w s → IsIn m f d → ((t : ℕ) → t < m → pos 0 ≤ℤ (a *ℤ w (f t) +ℤ b *ℤ s (f t))) → pos 0 ≤ℤ (a *ℤ w d +ℤ b *ℤ s d)
form_nonneg w s m f d a b x i h =
    subst (λ (z : ℤ). pos 0 ≤ℤ z) (x.value a b d)
    (nonneg_in_closure m f (x.form a b) d i.convex (λ t l. subst (λ (z : ℤ). pos 0 ≤ℤ z) (sym (x.value a b (f t))) (h t l)) (weakly i))

form_pos : (w s : Vec3 → ℤ) (m : ℕ) (f : ℕ → Vec3) (d : Vec3) (a b : ℤ) → Axis w s → IsIn m f d → pos 0 <ℤ (a *ℤ a +ℤ b *ℤ b) → ((t : ℕ) → t < m → pos 0 ≤ℤ (a *ℤ w (f t) +ℤ b *ℤ s (f t)))
    → pos 0 <ℤ (a *ℤ w d +ℤ b *ℤ s d)
form_pos w s m f d a b x i z h =
    subst (λ (y : ℤ). pos 0 <ℤ y) (x.value a b d)
    (positive_inside m f (x.form a b) d i.convex (λ t l. subst (λ (y : ℤ). pos 0 ≤ℤ y) (sym (x.value a b (f t))) (h t l)) (subst (λ (y : ℤ). pos 0 <ℤ y) (sym (x.self a b)) z) i.inside)

-- the cell of a direction along one side of the panel
abbrev cell_of : ℤ → ℤ → ℤ → ℤ
cell_of k s w = int_min (k -ℤ pos 1) (floor_of (k *ℤ s) w)

-- what the proofs for one direction of a panel take
pub record InFront (w s : Vec3 → ℤ) (m : ℕ) (f : ℕ → Vec3) (d : Vec3) (k : ℤ) : Type 0 where
  pub axis : Axis w s
  pub inside : IsIn m f d
  pub fine : pos 0 <ℤ k
  pub front : pos 0 <ℤ w d
  pub nodes : (t : ℕ) → t < m → pos 0 <ℤ w (f t)

neg_form : (a b x y : ℤ) → neg_ℤ a *ℤ x +ℤ b *ℤ y ≡ b *ℤ y -ℤ a *ℤ x
neg_form a b x y = omega (arith, ints, neg_times a x)

form_neg : (a b x y : ℤ) → a *ℤ x +ℤ neg_ℤ b *ℤ y ≡ a *ℤ x -ℤ b *ℤ y
form_neg a b x y = omega (arith, ints, neg_times b y)

pred_plus : (k : ℤ) → (k -ℤ pos 1) +ℤ pos 1 ≡ k
pred_plus k = omega (arith, ints)

-- u is the cell of the floor f: f, or the last cell
record IsCell (k u f : ℤ) : Type 0 where
  at_most : u ≤ℤ f
  within : u ≤ℤ (k -ℤ pos 1)
  top : u <ℤ f → u ≡ k -ℤ pos 1

cell_is : (k f : ℤ) → IsCell k (int_min (k -ℤ pos 1) f) f
cell_is k f = record { at_most = omega (arith, ints, clamps); within = omega (arith, ints, clamps); top = λ h. omega (arith, ints, clamps, h) }

above_next : (u f : ℤ) → u <ℤ f → (u +ℤ pos 1) ≤ℤ f
above_next u f h = omega (arith, ints)

next_above : (u f : ℤ) → (u +ℤ pos 1) ≤ℤ f → u <ℤ f
next_above u f h = omega (arith, ints)

to_nonneg : (a b x y : ℤ) → (a *ℤ x) ≤ℤ (b *ℤ y) → pos 0 ≤ℤ (neg_ℤ a *ℤ x +ℤ b *ℤ y)
to_nonneg a b x y h = omega (arith, ints, neg_form a b x y)

from_nonneg : (a b x y : ℤ) → pos 0 ≤ℤ (neg_ℤ a *ℤ x +ℤ b *ℤ y) → (a *ℤ x) ≤ℤ (b *ℤ y)
from_nonneg a b x y h = omega (arith, ints, neg_form a b x y)

last_cell : (k u x y : ℤ) → pos 0 <ℤ k → u ≡ k -ℤ pos 1 → ((u +ℤ pos 1) *ℤ x) ≤ℤ (k *ℤ y) → (x -ℤ y) ≤ℤ pos 0
last_cell k u x y h e l =
    let q : (k *ℤ x) ≤ℤ (k *ℤ y) = subst (λ (z : ℤ). (z *ℤ x) ≤ℤ (k *ℤ y)) (ap (λ (z : ℤ). z +ℤ pos 1) e ∙ pred_plus k) l in
    let r = nonneg_cancel k (y -ℤ x) h (omega (arith, ints, q, times_less k y x)) in
    omega (arith, ints, r)
  where
    times_less : (c a b : ℤ) → c *ℤ (a -ℤ b) ≡ c *ℤ a -ℤ c *ℤ b
    times_less c a b = omega (arith, ints, times_sum c a (neg_ℤ b), *ℤ_comm c (neg_ℤ b), neg_times b c, *ℤ_comm b c)

-- all floors are above the cell of d: then the side is at least w on every node
all_above : {w s : Vec3 → ℤ} {m : ℕ} {f : ℕ → Vec3} {d : Vec3} {k : ℤ} → InFront w s m f d k → ((t : ℕ) → t < m → cell_of k (s d) (w d) <ℤ floor_of (k *ℤ s (f t)) (w (f t)))
    → (t : ℕ) → t < m → (w (f t) -ℤ s (f t)) ≤ℤ pos 0
all_above {w} {s} {m} {f} {d} {k} i h t l =
    let u = cell_of k (s d) (w d) in
    let fd = floor_of (k *ℤ s d) (w d) in
    let c = cell_is k fd in
    let at : (r : ℕ) → r < m → ((u +ℤ pos 1) *ℤ w (f r)) ≤ℤ (k *ℤ s (f r)) =
    (λ r q. floor_at_least (u +ℤ pos 1) (floor_is (k *ℤ s (f r)) (w (f r)) (i.nodes r q)) (i.nodes r q) (above_next u (floor_of (k *ℤ s (f r)) (w (f r))) (h r q))) in
    let here = form_nonneg w s m f d (neg_ℤ (u +ℤ pos 1)) k i.axis i.inside (λ r q. to_nonneg (u +ℤ pos 1) k (w (f r)) (s (f r)) (at r q)) in
    let up = at_least_floor (u +ℤ pos 1) (floor_is (k *ℤ s d) (w d) i.front) i.front (from_nonneg (u +ℤ pos 1) k (w d) (s d) here) in
    last_cell k u (w (f t)) (s (f t)) i.fine (c.top (next_above u fd up)) (at t l)

-- all floors are below the cell of d: that cannot be
all_below : {w s : Vec3 → ℤ} {m : ℕ} {f : ℕ → Vec3} {d : Vec3} {k : ℤ} → InFront w s m f d k → ¬ ((t : ℕ) → t < m → floor_of (k *ℤ s (f t)) (w (f t)) <ℤ cell_of k (s d) (w d))
all_below {w} {s} {m} {f} {d} {k} i h =
    let u = cell_of k (s d) (w d) in
    let fd = floor_of (k *ℤ s d) (w d) in
    let c = cell_is k fd in
    let at : (r : ℕ) → r < m → (k *ℤ s (f r)) <ℤ (u *ℤ w (f r)) =
    (λ r q. floor_below u (floor_is (k *ℤ s (f r)) (w (f r)) (i.nodes r q)) (i.nodes r q) (h r q)) in
    let here = form_pos w s m f d u (neg_ℤ k) i.axis i.inside (squares_pos u k i.fine) (λ r q. to_pos u k (w (f r)) (s (f r)) (at r q)) in
    let up = below_floor u (floor_is (k *ℤ s d) (w d) i.front) i.front (from_pos u k (w d) (s d) here) in
    not_both u fd c.at_most up
  where
    squares_pos : (a k : ℤ) → pos 0 <ℤ k → pos 0 <ℤ (a *ℤ a +ℤ neg_ℤ k *ℤ neg_ℤ k)
    squares_pos a k h = omega (arith, ints, square_nonneg a, neg_times k (neg_ℤ k), *ℤ_comm k (neg_ℤ k), neg_times k k, pos_times k k h h)

    to_pos : (a b x y : ℤ) → (b *ℤ y) <ℤ (a *ℤ x) → pos 0 ≤ℤ (a *ℤ x +ℤ neg_ℤ b *ℤ y)
    to_pos a b x y h = omega (arith, ints, form_neg a b x y)

    from_pos : (a b x y : ℤ) → pos 0 <ℤ (a *ℤ x +ℤ neg_ℤ b *ℤ y) → (b *ℤ y) <ℤ (a *ℤ x)
    from_pos a b x y h = omega (arith, ints, form_neg a b x y)

    not_both : (u f : ℤ) → u ≤ℤ f → f <ℤ u → ⊥
    not_both u f p q = omega (arith, ints)

-- the least floor is at most the cell of d
least_below : {w s : Vec3 → ℤ} {m : ℕ} {f : ℕ → Vec3} {d : Vec3} {k : ℤ} → InFront w s m f d k → ¬ ((t : ℕ) → t < m → (w (f t) -ℤ s (f t)) ≤ℤ pos 0)
    → least (λ t. floor_of (k *ℤ s (f t)) (w (f t))) (m - 1) ≤ℤ cell_of k (s d) (w d)
least_below {w} {s} {m} {f} {d} {k} i n =
    elim (by_strict_sign (least (λ t. floor_of (k *ℤ s (f t)) (w (f t))) (m - 1) -ℤ cell_of k (s d) (w d))) [
      | inr q ↦ omega (arith, ints, q)
      | inl q ↦ absurd (n (all_above i (λ t l. omega (arith, ints, q, least_at (λ t. floor_of (k *ℤ s (f t)) (w (f t))) (m - 1) t (omega arith)))))
    ]

-- the greatest floor is at least the cell of d
greatest_above : {w s : Vec3 → ℤ} {m : ℕ} {f : ℕ → Vec3} {d : Vec3} {k : ℤ} → InFront w s m f d k
    → cell_of k (s d) (w d) ≤ℤ greatest (λ t. floor_of (k *ℤ s (f t)) (w (f t))) (m - 1)
greatest_above {w} {s} {m} {f} {d} {k} i =
    elim (by_sign (greatest (λ t. floor_of (k *ℤ s (f t)) (w (f t))) (m - 1) -ℤ cell_of k (s d) (w d))) [
      | inl q ↦ omega (arith, ints, q)
      | inr q ↦ absurd (all_below i (λ t l. omega (arith, ints, q, greatest_at (λ t. floor_of (k *ℤ s (f t)) (w (f t))) (m - 1) t (omega arith))))
    ]

-- ---- the box of a face
-- the cell (u, v) lies in the box
pub record Holds (b : CellBox) (u v : ℤ) : Type 0 where
  pub u_low : b.u0 ≤ℤ u
  pub u_high : u ≤ℤ b.u1
  pub v_low : b.v0 ≤ℤ v
  pub v_high : v ≤ℤ b.v1

-- the cell of a direction on a panel lies on the panel
record OnPanel (k u : ℤ) : Type 0 where
  low : neg_ℤ k ≤ℤ u
  high : u ≤ℤ (k -ℤ pos 1)

cell_on_panel : (k s w : ℤ) → pos 0 <ℤ k → pos 0 <ℤ w → pos 0 ≤ℤ (w +ℤ s) → OnPanel k (cell_of k s w)
cell_on_panel k s w h l p =
    let c = cell_is k (floor_of (k *ℤ s) w) in
    let q = at_least_floor (neg_ℤ k) (floor_is (k *ℤ s) w l) l (down k s w (nonneg_times k (w +ℤ s) (omega (arith, ints)) p)) in
    record { low = omega (arith, ints, clamps, q); high = c.within }
  where
    down : (k s w : ℤ) → pos 0 ≤ℤ (k *ℤ (w +ℤ s)) → (neg_ℤ k *ℤ w) ≤ℤ (k *ℤ s)
    down k s w h = omega (arith, ints, neg_times k w, times_sum k w s)

-- a side that is at least w on every node is more than w inside
not_beyond : {w s : Vec3 → ℤ} {m : ℕ} {f : ℕ → Vec3} {d : Vec3} → Axis w s → IsIn m f d → pos 0 ≤ℤ (w d -ℤ s d) → ¬ ((t : ℕ) → t < m → (w (f t) -ℤ s (f t)) ≤ℤ pos 0)
not_beyond {w} {s} {m} {f} {d} x i p h =
    let q = form_pos w s m f d (negsuc 0) (pos 1) x i (omega (arith, ints)) (λ t l. over (w (f t)) (s (f t)) (h t l)) in
    back (w d) (s d) p q
  where
    over : (w s : ℤ) → (w -ℤ s) ≤ℤ pos 0 → pos 0 ≤ℤ (negsuc 0 *ℤ w +ℤ pos 1 *ℤ s)
    over w s h = omega (arith, ints, neg_times (pos 1) w, one_times w, one_times s)

    back : (w s : ℤ) → pos 0 ≤ℤ (w -ℤ s) → pos 0 <ℤ (negsuc 0 *ℤ w +ℤ pos 1 *ℤ s) → ⊥
    back w s p h = omega (arith, ints, neg_times (pos 1) w, one_times w, one_times s)

not_under : {w s : Vec3 → ℤ} {m : ℕ} {f : ℕ → Vec3} {d : Vec3} → Axis w s → IsIn m f d → pos 0 ≤ℤ (w d +ℤ s d) → ¬ ((t : ℕ) → t < m → (w (f t) +ℤ s (f t)) ≤ℤ pos 0)
not_under {w} {s} {m} {f} {d} x i p h =
    let q = form_pos w s m f d (negsuc 0) (negsuc 0) x i (omega (arith, ints)) (λ t l. over (w (f t)) (s (f t)) (h t l)) in
    back (w d) (s d) p q
  where
    over : (w s : ℤ) → (w +ℤ s) ≤ℤ pos 0 → pos 0 ≤ℤ (negsuc 0 *ℤ w +ℤ negsuc 0 *ℤ s)
    over w s h = omega (arith, ints, neg_times (pos 1) w, one_times w, neg_times (pos 1) s, one_times s)

    back : (w s : ℤ) → pos 0 ≤ℤ (w +ℤ s) → pos 0 <ℤ (negsuc 0 *ℤ w +ℤ negsuc 0 *ℤ s) → ⊥
    back w s p h = omega (arith, ints, neg_times (pos 1) w, one_times w, neg_times (pos 1) s, one_times s)

-- the first rule does not apply
reaches : (vs : List Vec3) (p : Panel) (d : Vec3) → IsIn (length vs) (vector_at vs) d → IsOn p d → is_beyond vs p ≡ false
unfolding is_beyond
reaches vs p d i o =
    elim (true_or_false (is_beyond vs p)) [
      | inr e ↦ e
      | inl e ↦ elim (or_cases _ _ e) [
        | inr a ↦ absurd (not_under (v_axis p) i o.v_low (λ t l. le_true _ _ (every_at (λ t. beyond_v_start (seen vs p t)) (length vs) t a l)))
        | inl e2 ↦ elim (or_cases _ _ e2) [
          | inr a ↦ absurd (not_beyond (v_axis p) i o.v_high (λ t l. le_true _ _ (every_at (λ t. beyond_v_end (seen vs p t)) (length vs) t a l)))
          | inl e3 ↦ elim (or_cases _ _ e3) [
            | inr a ↦ absurd (not_under (u_axis p) i o.u_low (λ t l. le_true _ _ (every_at (λ t. beyond_u_start (seen vs p t)) (length vs) t a l)))
            | inl a ↦ absurd (not_beyond (u_axis p) i o.u_high (λ t l. le_true _ _ (every_at (λ t. beyond_u_end (seen vs p t)) (length vs) t a l)))
          ]
        ]
      ]
    ]

abbrev u_cell : Panel → Vec3 → ℤ → ℤ
u_cell p d k = cell_of k (seen_from p d).u (seen_from p d).w

abbrev v_cell : Panel → Vec3 → ℤ → ℤ
v_cell p d k = cell_of k (seen_from p d).v (seen_from p d).w

-- the second rule
in_range : (vs : List Vec3) (p : Panel) (k : ℤ) (d : Vec3) → IsIn (length vs) (vector_at vs) d → IsOn p d → pos 0 <ℤ k → is_in_front vs p ≡ true → Holds (range_of vs p k) (u_cell p d k) (v_cell p d k)
unfolding is_in_front range_of
in_range vs p k d i o h e =
    let nodes = (λ (t : ℕ) (l : t < length vs). lt_true (pos 0) (seen vs p t).w (every_at (λ t. int_lt (pos 0) (seen vs p t).w) (length vs) t e l)) in
    let fu : InFront (across p) (along_u p) (length vs) (vector_at vs) d k = record { axis = u_axis p; inside = i; fine = h; front = o.front; nodes = nodes } in
    let fv : InFront (across p) (along_v p) (length vs) (vector_at vs) d k = record { axis = v_axis p; inside = i; fine = h; front = o.front; nodes = nodes } in
    let pu = cell_on_panel k (seen_from p d).u (seen_from p d).w h o.front o.u_low in
    let pv = cell_on_panel k (seen_from p d).v (seen_from p d).w h o.front o.v_low in
    record {
      u_low = max_at_most _ _ _ pu.low (least_below fu (not_beyond (u_axis p) i o.u_high));
      u_high = at_most_min _ _ _ pu.high (greatest_above fu);
      v_low = max_at_most _ _ _ pv.low (least_below fv (not_beyond (v_axis p) i o.v_high));
      v_high = at_most_min _ _ _ pv.high (greatest_above fv);
    }
  where
    max_at_most : (a b c : ℤ) → a ≤ℤ c → b ≤ℤ c → int_max a b ≤ℤ c
    max_at_most a b c p q = omega (arith, ints, clamps)

    at_most_min : (a b c : ℤ) → c ≤ℤ a → c ≤ℤ b → c ≤ℤ int_min a b
    at_most_min a b c p q = omega (arith, ints, clamps)

not_empty : (b : CellBox) (u v : ℤ) → Holds b u v → is_empty b ≡ false
not_empty b u v h = or_false (lt_false b.u1 b.u0 (omega (arith, ints, h.u_low, h.u_high))) (lt_false b.v1 b.v0 (omega (arith, ints, h.v_low, h.v_high)))
  where
    or_false : {a b : Bool} → a ≡ false → b ≡ false → (a || b) ≡ false
    or_false p q = cc

-- the face has a box on the panel, and the cell of the direction lies in it
pub has_box : (vs : List Vec3) (p : Panel) (k : ℤ) (d : Vec3) → IsIn (length vs) (vector_at vs) d → IsOn p d → pos 0 <ℤ k → (b : CellBox) × (box_of vs p k ≡ Some b) × Holds b (u_cell p d k) (v_cell p d k)
unfolding box_of
has_box vs p k d i o h =
    let r = reaches vs p d i o in
    elim (true_or_false (is_in_front vs p)) [
      | inl e ↦
          let q = in_range vs p k d i o h e in
          let n = not_empty (range_of vs p k) (u_cell p d k) (v_cell p d k) q in
          (range_of vs p k, rw (r, e, n) refl, q)
      | inr e ↦
          let pu = cell_on_panel k (seen_from p d).u (seen_from p d).w h o.front o.u_low in
          let pv = cell_on_panel k (seen_from p d).v (seen_from p d).w h o.front o.v_low in
          (whole_panel k, rw (r, e) refl, record { u_low = pu.low; u_high = pu.high; v_low = pv.low; v_high = pv.high })
    ]

share : (a b : Option CellBox) (x y : CellBox) (u v : ℤ) → a ≡ Some x → b ≡ Some y → Holds x u v → Holds y u v → SharesCell a b
share a b x y u v e f p q =
    let o : RangesMeet x y = record {
      u_left = omega (arith, ints, p.u_low, q.u_high);
      u_right = omega (arith, ints, q.u_low, p.u_high);
      v_left = omega (arith, ints, p.v_low, q.v_high);
      v_right = omega (arith, ints, q.v_low, p.v_high);
    } in
    subst (λ (z : Option CellBox). SharesCell z b) (sym e) (subst (λ (z : Option CellBox). SharesCell (Some x) z) (sym f) o)

-- a direction on the positive side of a plane is not zero
not_zero : (n d : Vec3) → pos 0 <ℤ inner n d → 0 < unsigned_abs d.x + unsigned_abs d.y + unsigned_abs d.z
not_zero n d h =
    elim (same_or_not (unsigned_abs d.x + unsigned_abs d.y + unsigned_abs d.z) 0) [
      | inr e ↦ omega (arith, e)
      | inl e ↦
          let z : d ≡ zero_triple = vec_eq d zero_triple (omega (arith, ints)) (omega (arith, ints)) (omega (arith, ints)) in
          absurd (none (subst (λ (w : Vec3). pos 0 <ℤ inner n w) z h) (inner_zero n))
    ]
  where
    none : {z : ℤ} → pos 0 <ℤ z → z ≡ pos 0 → ⊥
    none {z} p q = omega (arith, ints)

pub law_holds : LawMeetsIsCandidate
law_holds f g k a b h m =
    let c = accepted_convex f a in
    let i : IsIn (length f) (vector_at f) m.0 = record { convex = c; inside = m.1 } in
    let j : IsIn (length g) (vector_at g) m.0 = record { convex = accepted_convex g b; inside = m.2 } in
    let r = panel_for m.0 (not_zero (edge_plane (length f) (vector_at f) 0) m.0 (m.1 0 (omega (arith, c.three)))) in
    let x = has_box f r.0 k m.0 i r.1 h in
    let y = has_box g r.0 k m.0 j r.1 h in
    (r.0, share (box_of f r.0 k) (box_of g r.0 k) x.0 y.0 (u_cell r.0 m.0 k) (v_cell r.0 m.0 k) x.1 y.1 x.2 y.2)
