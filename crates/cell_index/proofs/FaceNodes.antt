-- What the loop over the nodes of a face keeps, and the box by its cases.
use Rattle.std.proofs.Common.{◌≡◌, ℕ, ◌+◌, ◌<◌, ℤ, pos, ◌-ℤ◌, ◌<ℤ◌, neg_ℤ, ◌-◌, int_lt, ap, refl, ◌∙◌, subst, true, false, List, length, add-one, None, Some, if◌then◌else◌}
use Rattle.vec_exact.specs.declared.Vec3.{Vec3}
use Rattle.vec_exact.specs.declared.panels.Panel.{Panel}
use Rattle.cell_index.specs.Box.{least, greatest, seen, is_beyond, is_in_front, u_floor, v_floor, range_of, is_empty, whole_panel, box_of}
use Rattle.cell_index.specs.declared.CellBox.{CellBox}
use Rattle.cell_index.proofs.Places.{lt_true, every_at}
use Rattle.std.specs.Int.{int_min, int_max}

pub least_more : (f : ℕ → ℤ) (n : ℕ) → least f (n + 1) ≡ int_min (least f n) (f (n + 1))
least_more f n = rw (add-one) refl

pub greatest_more : (f : ℕ → ℤ) (n : ℕ) → greatest f (n + 1) ≡ int_max (greatest f n) (f (n + 1))
greatest_more f n = rw (add-one) refl

-- the least and greatest floors of the nodes 0 to t
pub record FloorsSoFar (vs : List Vec3) (p : Panel) (k : ℤ) (t : ℕ) (b : CellBox) : Type 0 where
  pub u0 : b.u0 ≡ least (u_floor vs p k) t
  pub u1 : b.u1 ≡ greatest (u_floor vs p k) t
  pub v0 : b.v0 ≡ least (v_floor vs p k) t
  pub v1 : b.v1 ≡ greatest (v_floor vs p k) t

pub least_step : (f : ℕ → ℤ) (n : ℕ) (a b x : ℤ) → a ≡ least f n → x ≡ f (n + 1) → b ≡ int_min a x → b ≡ least f (n + 1)
least_step f n a b x p q r = cc (least_more f n, p, q, r)

pub greatest_step : (f : ℕ → ℤ) (n : ℕ) (a b x : ℤ) → a ≡ greatest f n → x ≡ f (n + 1) → b ≡ int_max a x → b ≡ greatest f (n + 1)
greatest_step f n a b x p q r = cc (greatest_more f n, p, q, r)

-- ---- the box by its cases
pub front_at : (vs : List Vec3) (p : Panel) (t : ℕ) → is_in_front vs p ≡ true → t < length vs → pos 0 <ℤ (seen vs p t).w
unfolding is_in_front
front_at vs p t h l = lt_true (pos 0) (seen vs p t).w (every_at (λ t. int_lt (pos 0) (seen vs p t).w) (length vs) t h l)

pub box_beyond : (vs : List Vec3) (p : Panel) (k : ℤ) → is_beyond vs p ≡ true → None ≡ box_of vs p k
unfolding box_of
box_beyond vs p k e = rw e refl

pub box_fitted : (vs : List Vec3) (p : Panel) (k : ℤ) → is_beyond vs p ≡ false → is_in_front vs p ≡ true → (if is_empty (range_of vs p k) then None else Some (range_of vs p k)) ≡ box_of vs p k
unfolding box_of
box_fitted vs p k e f = rw (e, f) refl

pub box_whole : (vs : List Vec3) (p : Panel) (k : ℤ) → is_beyond vs p ≡ false → is_in_front vs p ≡ false → Some (whole_panel k) ≡ box_of vs p k
unfolding box_of
box_whole vs p k e f = rw (e, f) refl

-- the range of all nodes
pub range_all : (vs : List Vec3) (p : Panel) (k : ℤ) (t : ℕ) (b w r : CellBox) → FloorsSoFar vs p k t b → t ≡ length vs - 1 → w ≡ whole_panel k
    → r.u0 ≡ int_max w.u0 b.u0 → r.u1 ≡ int_min w.u1 b.u1 → r.v0 ≡ int_max w.v0 b.v0 → r.v1 ≡ int_min w.v1 b.v1 → r ≡ range_of vs p k
unfolding range_of
range_all vs p k t b w r h e q u0 u1 v0 v1 =
    let at : FloorsSoFar vs p k (length vs - 1) b = subst (λ (n : ℕ). FloorsSoFar vs p k n b) e h in
    box_eq r (range_of vs p k)
    (u0 ∙ ap (λ (z : CellBox). int_max z.u0 b.u0) q ∙ ap (int_max (neg_ℤ k)) at.u0)
    (u1 ∙ ap (λ (z : CellBox). int_min z.u1 b.u1) q ∙ ap (int_min (k -ℤ pos 1)) at.u1)
    (v0 ∙ ap (λ (z : CellBox). int_max z.v0 b.v0) q ∙ ap (int_max (neg_ℤ k)) at.v0)
    (v1 ∙ ap (λ (z : CellBox). int_min z.v1 b.v1) q ∙ ap (int_min (k -ℤ pos 1)) at.v1)
  where
    box_eq : (a b : CellBox) → a.u0 ≡ b.u0 → a.u1 ≡ b.u1 → a.v0 ≡ b.v0 → a.v1 ≡ b.v1 → a ≡ b
    box_eq a b p q r s = λ i. record { u0 = p i; u1 = q i; v0 = r i; v1 = s i }
