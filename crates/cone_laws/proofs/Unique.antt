-- The uniqueness law: a list of planes has at most one ring.
use Rattle.std.proofs.Common.{◌≡◌, ℕ, zero, suc, ◌-◌, ◌<◌, ◌≤◌, ℤ, pos, ◌≤ℤ◌, ◌<ℤ◌, arith, ap, sym, ◌∙◌, ◌⊎◌, inl, inr, subst, List, length, get_or}
use Rattle.std.proofs.lemmas.Int.{ints}
use Rattle.std.proofs.lemmas.List.{ext_get_or}
use Rattle.std.proofs.Math.IntN.{*ℤ_comm}
use Rattle.vec_exact.specs.declared.Vec3.{Vec3}
use Rattle.vec_exact.specs.Vector.{zero_triple, inner, cross, added}
use Rattle.vec_exact.specs.Side.{SameDirection}
use Rattle.vec_exact.specs.Cycle.{after, corner}
use Rattle.vec_exact.proofs.Signs.{pos_times, by_strict_sign, pos_factor}
use Rattle.vec_exact.proofs.Planes.{self_pos, same_direction_turned}
use Rattle.vec_exact.proofs.Identities.{inner_added, parallel, inner_cross_zero, det_swapped_ends}
use Rattle.vec_exact.proofs.Cycles.{same_or_not, below_same_above, after_below, after_inner, after_last, after_other, before, on_own_first, on_own_second, positive_corner}
use Rattle.cone_laws.specs.Cone.{AllPositive}
use Rattle.cone_laws.specs.Ring.{IsCycle, IsRingOfFirst, plane}
use Rattle.cone_laws.proofs.Meetings.{along_cycle}
use Rattle.cone_laws.proofs.Inside.{cone_pos}
use Rattle.cone_laws.proofs.Turned.{planes_of}

-- what is strictly inside a cycle is strictly inside each of the first m planes that is not zero
pub inside : (p : ℕ → Vec3) (m k : ℕ) (g : ℕ → ℕ) (e : Vec3) → IsCycle p m k g → AllPositive k (planes_of p g) e
    → (i : ℕ) → 1 ≤ i → i ≤ m → pos 0 <ℤ inner (p i) (p i) → pos 0 <ℤ inner (p i) e
inside p m k g e c h i l r z = cone_pos k (planes_of p g) (p i) e c.convex (λ t lt. c.covered i t l r lt) z h

all_or_one : (f : ℕ → ℤ) (k : ℕ) → ((s : ℕ) → s < k → pos 0 <ℤ f s) ⊎ ((s : ℕ) × (s < k) × (f s ≤ℤ pos 0))
all_or_one f zero = inl (λ s l. absurd (omega arith))
all_or_one f (suc k) =
    elim (by_strict_sign (f k)) [
      | inl h ↦ elim (all_or_one f k) [
        | inl all ↦ inl (λ s l. elim (same_or_not s k) [
          | inl e ↦ subst (λ (i : ℕ). pos 0 <ℤ f i) (sym e) h
          | inr ne ↦ all s (omega arith)
        ])
        | inr one ↦ inr (one.0, omega (arith, one.1), one.2)
      ]
      | inr h ↦ inr (k, omega arith, h)
    ]

-- parallel planes, one positive on a corner on which the other is not negative, have the same direction
forward : (q b c : Vec3) → cross q b ≡ zero_triple → pos 0 <ℤ inner q c → pos 0 <ℤ inner b b → pos 0 ≤ℤ inner b c → pos 0 <ℤ inner q b
forward q b c e h z f =
    pos_factor (inner b c) (inner q b) f
    (omega (arith, ints, *ℤ_comm (inner q b) (inner b c), parallel q b c, ap (λ (w : Vec3). inner (cross b w) c) e, inner_cross_zero b c, pos_times (inner q c) (inner b b) h z))

-- ---- the numbers of one cycle stand in the other
-- The sum of the corners before and after a listed plane lies on that plane, so the other cycle has a plane that is not positive on the sum. It is zero on both corners, so it has the same direction, and the fourth part of a ring makes the numbers equal.
found_after : (p : ℕ → Vec3) (m k j : ℕ) (g h : ℕ → ℕ) → IsCycle p m k g → IsCycle p m j h → (r : ℕ) → r < k → (s : ℕ) × (s < j) × (h s ≡ g (after k r))
found_after p m k j g h c d r lr =
    let t = after k r in
    let l : t < k = after_below k r lr in
    let n = planes_of p g in
    let e = added (corner k n r) (corner k n t) in
    let on : inner (n t) e ≡ pos 0 =
    omega (arith, ints, inner_added (n t) (corner k n r) (corner k n t), on_own_first k n t, on_own_second k n r) in
    let own : pos 0 <ℤ inner (n t) (n t) = self_pos (n t) (corner k n (after k t)) (positive_corner n k t c.convex l) in
    elim (all_or_one (λ s. inner (p (h s)) e) j) [
      | inl all ↦ absurd (omega (arith, ints, on, inside p m j h e d all (g t) (c.least_number t l) (c.greatest_number t l) own))
      | inr one ↦
          let s = one.0 in
          let q = p (h s) in
          let c1 = c.covered (h s) r (d.least_number s one.1) (d.greatest_number s one.1) lr in
          let c2 = c.covered (h s) t (d.least_number s one.1) (d.greatest_number s one.1) l in
          let z1 : inner q (corner k n r) ≡ pos 0 = omega (arith, ints, c1, c2, one.2, inner_added q (corner k n r) (corner k n t)) in
          let z2 : inner q (corner k n t) ≡ pos 0 = omega (arith, ints, c1, c2, one.2, inner_added q (corner k n r) (corner k n t)) in
          let al : cross q (n t) ≡ zero_triple = along_cycle k n r q c.convex lr z1 z2 in
          let fw : pos 0 <ℤ inner q (n t) = forward q (n t) (corner j (planes_of p h) (after j s)) al (positive_corner (planes_of p h) j s d.convex one.1) own
          (d.covered (g t) (after j s) (c.least_number t l) (c.greatest_number t l) (after_below j s one.1)) in
          let same : SameDirection q (n t) = record { along = al; forward = fw } in
          elim (same_or_not (h s) (g t)) [
            | inl eq ↦ (s, one.1, eq)
            | inr ne ↦ absurd (omega (
              arith,
              c.earliest t (h s) l (d.least_number s one.1) (d.greatest_number s one.1) ne (same_direction_turned q (n t) same),
              d.earliest s (g t) one.1 (c.least_number t l) (c.greatest_number t l) (λ z. ne (sym z)) same,
            ))
          ]
    ]

found : (p : ℕ → Vec3) (m k j : ℕ) (g h : ℕ → ℕ) → IsCycle p m k g → IsCycle p m j h → (t : ℕ) → t < k → (s : ℕ) × (s < j) × (h s ≡ g t)
found p m k j g h c d t l =
    let b = before k t l in
    let f = found_after p m k j g h c d b.0 b.1 in
    (f.0, f.1, f.2 ∙ ap g b.2)

-- ---- the order of the numbers
-- where two cycles list one number, they list the same next number
same_next : (p : ℕ → Vec3) (m k j : ℕ) (g h : ℕ → ℕ) → IsCycle p m k g → IsCycle p m j h → (t s : ℕ) → t < k → s < j → g t ≡ h s → g (after k t) ≡ h (after j s)
unfolding corner
same_next p m k j g h c d t s lt ls e =
    let n = planes_of p g in
    let o = planes_of p h in
    let at = after_below k t lt in
    let next = after_below j s ls in
    let u = c.covered (h (after j s)) t (d.least_number (after j s) next) (d.greatest_number (after j s) next) lt in
    let w = d.covered (g (after k t)) s (c.least_number (after k t) at) (c.greatest_number (after k t) at) ls in
    let w' : pos 0 ≤ℤ inner (n (after k t)) (cross (n t) (o (after j s))) = subst (λ (i : ℕ). pos 0 ≤ℤ inner (n (after k t)) (cross (p i) (o (after j s)))) (sym e) w in
    let z : inner (o (after j s)) (corner k n t) ≡ pos 0 = omega (arith, ints, u, w', det_swapped_ends (n (after k t)) (n t) (o (after j s))) in
    let f = found p m j k h g d c (after j s) next in
    elim (same_or_not f.0 t) [
      | inl q ↦ absurd (after_other j s d.convex.three ls (d.different (after j s) s next ls (sym f.2 ∙ ap g q ∙ e)))
      | inr ne ↦ elim (same_or_not f.0 (after k t)) [
        | inl q ↦ ap g (sym q) ∙ f.2
        | inr ne2 ↦ absurd (omega (arith, ints, ap (λ (i : ℕ). inner (p i) (corner k n t)) f.2, z, c.convex.strict t f.0 lt f.1 ne ne2))
      ]
    ]

-- two cycles that begin with one number list the same
same_places : (p : ℕ → Vec3) (m k j : ℕ) (g h : ℕ → ℕ) → IsCycle p m k g → IsCycle p m j h → g 0 ≡ h 0 → (t : ℕ) → t < k → t < j → g t ≡ h t
same_places p m k j g h c d e zero lk lj = e
same_places p m k j g h c d e (suc t) lk lj =
    ap g (sym (after_inner k t lk)) ∙ same_next p m k j g h c d t t (omega arith) (omega arith) (same_places p m k j g h c d e t (omega arith) (omega arith)) ∙ ap h (after_inner j t lj)

not_shorter : (p : ℕ → Vec3) (m k j : ℕ) (g h : ℕ → ℕ) → IsCycle p m k g → IsCycle p m j h → g 0 ≡ h 0 → k < j → ⊥
not_shorter p m k j g h c d e l =
    let kt : 3 ≤ k = c.convex.three in
    let q : suc (k - 1) ≡ k = omega arith in
    let n = same_next p m k j g h c d (k - 1) (k - 1) (omega arith) (omega arith) (same_places p m k j g h c d e (k - 1) (omega arith) (omega arith)) in
    let z : h 0 ≡ h k = sym e ∙ ap g (sym (after_last k (k - 1) q)) ∙ n ∙ ap h (after_inner j (k - 1) (omega arith) ∙ q) in
    let f = d.different 0 k (omega arith) l z in
    omega arith

pub unique : (ps : List Vec3) (m : ℕ) (l k : List ℕ) → IsRingOfFirst ps m l → IsRingOfFirst ps m k → l ≡ k
unique ps m l k c d =
    let lt : 3 ≤ length l = c.cycle.convex.three in
    let kt : 3 ≤ length k = d.cycle.convex.three in
    let p = plane ps in
    let g = λ (t : ℕ). get_or l t 0 in
    let h = λ (t : ℕ). get_or k t 0 in
    let f1 = found p m (length l) (length k) g h c.cycle d.cycle 0 (omega arith) in
    let f2 = found p m (length k) (length l) h g d.cycle c.cycle 0 (omega arith) in
    let e : get_or l 0 0 ≡ get_or k 0 0 = omega (arith, f1.2, f2.2, c.least_first f2.0 f2.1, d.least_first f1.0 f1.1) in
    let len : length l ≡ length k = elim (below_same_above (length l) (length k)) [
      | inl a ↦ absurd (not_shorter p m (length l) (length k) g h c.cycle d.cycle e a)
      | inr o ↦ elim o [ inl q ↦ q | inr b ↦ absurd (not_shorter p m (length k) (length l) h g d.cycle c.cycle (sym e) b) ]
    ] in
    ext_get_or 0 l k len (λ t lt. same_places p m (length l) (length k) g h c.cycle d.cycle e t lt (omega (arith, len)))
