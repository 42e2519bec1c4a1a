-- A direction can be moved so little that no strict side is lost.
use Rattle.std.proofs.Common.{◌≡◌, ◌≢◌, ℕ, zero, suc, ◌+◌, ◌<◌, ◌≤◌, ℤ, pos, negsuc, neg_ℤ, ◌+ℤ◌, ◌-ℤ◌, ◌*ℤ◌, ◌≤ℤ◌, ◌<ℤ◌, arith, ap, refl, sym, ◌∙◌, ◌⊎◌, inl, inr, subst}
use Rattle.std.proofs.lemmas.Int.{ints}
use Rattle.std.proofs.Math.IntN.{*ℤ_comm}
use Rattle.vec_exact.specs.declared.Vec3.{Vec3}
use Rattle.vec_exact.specs.Vector.{inner, scaled, added}
use Rattle.vec_exact.proofs.Whole.{neg_times}
use Rattle.vec_exact.proofs.Identities.{inner_added, inner_scaled}
use Rattle.vec_exact.proofs.Cycles.{same_or_not}
use Rattle.cone_laws.proofs.Inside.{far, step_up}

-- d, moved towards e: strict sides on the k planes n stay, and where d is on a plane, e decides
pub record Nudged (k : ℕ) (n : ℕ → Vec3) (d e : Vec3) : Type 0 where
  pub direction : Vec3
  pub stays_pos : (s : ℕ) → s < k → pos 0 <ℤ inner (n s) d → pos 0 <ℤ inner (n s) direction
  pub stays_neg : (s : ℕ) → s < k → inner (n s) d <ℤ pos 0 → inner (n s) direction <ℤ pos 0
  pub on : (s : ℕ) → s < k → inner (n s) d ≡ pos 0 → inner (n s) direction ≡ inner (n s) e

up : (m : ℕ) (z w : ℤ) → pos 0 <ℤ z → (pos 1 -ℤ w) ≤ℤ pos m → pos 0 <ℤ (pos m *ℤ z +ℤ w)
up m z w p q = omega (arith, ints, step_up m z (pos 1 -ℤ w) p q)

down : (m : ℕ) (z w : ℤ) → z <ℤ pos 0 → (pos 1 +ℤ w) ≤ℤ pos m → (pos m *ℤ z +ℤ w) <ℤ pos 0
down m z w p q = omega (arith, ints, step_up m (neg_ℤ z) (pos 1 +ℤ w) (omega (arith, ints)) q, *ℤ_comm (pos m) (neg_ℤ z), neg_times z (pos m), *ℤ_comm (pos m) z)

level : (m : ℕ) (z w : ℤ) → z ≡ pos 0 → (pos m *ℤ z +ℤ w) ≡ w
level m z w e = ap (λ (u : ℤ). pos m *ℤ u +ℤ w) e ∙ omega (arith, ints)

pub nudge : (k : ℕ) (n : ℕ → Vec3) (d e : Vec3) → Nudged k n d e
nudge k n d e =
    let a = far n e k in let b = far n (scaled (negsuc 0) e) k in
    let m = a.0 + b.0 + 1 in
    let at : (s : ℕ) → inner (n s) (added (scaled (pos m) d) e) ≡ pos m *ℤ inner (n s) d +ℤ inner (n s) e = (λ s.
    inner_added (n s) (scaled (pos m) d) e ∙ ap (λ (z : ℤ). z +ℤ inner (n s) e) (inner_scaled (pos m) (n s) d)) in
    let below : (s : ℕ) → s < k → (pos 1 -ℤ inner (n s) e) ≤ℤ pos m = (λ s l. omega (arith, ints, b.1 s l, inner_scaled (negsuc 0) (n s) e, neg_times (pos 1) (inner (n s) e), one (inner (n s) e))) in
    let above : (s : ℕ) → s < k → (pos 1 +ℤ inner (n s) e) ≤ℤ pos m = (λ s l. omega (arith, ints, a.1 s l)) in
    record {
      direction = added (scaled (pos m) d) e;
      stays_pos = λ s l h. subst (λ (z : ℤ). pos 0 <ℤ z) (sym (at s)) (up m (inner (n s) d) (inner (n s) e) h (below s l));
      stays_neg = λ s l h. subst (λ (z : ℤ). z <ℤ pos 0) (sym (at s)) (down m (inner (n s) d) (inner (n s) e) h (above s l));
      on = λ s l h. at s ∙ level m (inner (n s) d) (inner (n s) e) h;
    }
  where
    one : (z : ℤ) → pos 1 *ℤ z ≡ z
    one z = omega (arith, ints)

-- a direction on none of the first j planes, with the strict sides of d on all k
pub record Generic (k : ℕ) (n : ℕ → Vec3) (d : Vec3) (j : ℕ) : Type 0 where
  pub direction : Vec3
  pub stays_pos : (s : ℕ) → s < k → pos 0 <ℤ inner (n s) d → pos 0 <ℤ inner (n s) direction
  pub stays_neg : (s : ℕ) → s < k → inner (n s) d <ℤ pos 0 → inner (n s) direction <ℤ pos 0
  pub off : (s : ℕ) → s < j → inner (n s) direction ≢ pos 0

by_sides : (z : ℤ) → (pos 0 <ℤ z) ⊎ ((z ≡ pos 0) ⊎ (z <ℤ pos 0))
by_sides (pos zero) = inr (inl refl)
by_sides (pos (suc n)) = inl (omega (arith, ints))
by_sides (negsuc n) = inr (inr (omega (arith, ints)))

pos_off : {z : ℤ} → pos 0 <ℤ z → z ≢ pos 0
pos_off {z} h = λ e. omega (arith, ints, h, e)

neg_off : {z : ℤ} → z <ℤ pos 0 → z ≢ pos 0
neg_off {z} h = λ e. omega (arith, ints, h, e)

-- one plane more: where the direction is on it, move it along its normal
off_one : (k : ℕ) (n : ℕ → Vec3) (d : Vec3) (j : ℕ) → j < k → pos 0 <ℤ inner (n j) (n j) → Generic k n d j → Generic k n d (suc j)
off_one k n d j l z g =
    let w = nudge k n g.direction (n j) in
    record {
      direction = w.direction;
      stays_pos = λ s ls h. w.stays_pos s ls (g.stays_pos s ls h);
      stays_neg = λ s ls h. w.stays_neg s ls (g.stays_neg s ls h);
      off = λ s ls. elim (by_sides (inner (n s) g.direction)) [
        | inl p ↦ pos_off (w.stays_pos s (omega arith) p)
        | inr o ↦ elim o [
          | inr q ↦ neg_off (w.stays_neg s (omega arith) q)
          | inl e ↦ elim (same_or_not s j) [
            | inr ne ↦ absurd (g.off s (omega arith) e)
            | inl same ↦ pos_off (subst (λ (u : ℤ). pos 0 <ℤ u) (sym (w.on s (omega arith) e)) (subst (λ (i : ℕ). pos 0 <ℤ inner (n i) (n j)) (sym same) z))
          ]
        ]
      ];
    }

pub generic : (k : ℕ) (n : ℕ → Vec3) (d : Vec3) → ((s : ℕ) → s < k → pos 0 <ℤ inner (n s) (n s)) → (j : ℕ) → j ≤ k → Generic k n d j
generic k n d z zero l = record { direction = d; stays_pos = λ s ls h. h; stays_neg = λ s ls h. h; off = λ s ls. absurd (omega arith) }
generic k n d z (suc j) l = off_one k n d j (omega arith) (z j (omega arith)) (generic k n d z j (omega arith))
