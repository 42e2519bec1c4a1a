-- Places in a cycle, and the corners of a convex cycle.
use Rattle.std.proofs.Common.{◌≡◌, ◌≢◌, ℕ, zero, suc, ◌+◌, ◌-◌, ◌<◌, ◌≤◌, ℤ, pos, ◌≤ℤ◌, ◌<ℤ◌, ◌⊎◌, inl, inr, arith, ap, ◌∙◌, sym, subst}
use Rattle.std.proofs.lemmas.Int.{ints}
use Rattle.vec_exact.specs.declared.Vec3.{Vec3}
use Rattle.vec_exact.specs.Vector.{inner, cross, det}
use Rattle.vec_exact.specs.Cycle.{after, shifted, edge_plane, corner, Convex}
use Rattle.vec_exact.proofs.Identities.{own_first, own_second, det_turned, inner_turned}

pub same_or_not : (a b : ℕ) → (a ≡ b) ⊎ (a ≢ b)
same_or_not a b = grind arith

pub below_same_above : (a b : ℕ) → (a < b) ⊎ ((a ≡ b) ⊎ (b < a))
below_same_above a b = grind arith

-- ---- the next place
pub after_inner : (k t : ℕ) → suc t < k → after k t ≡ suc t
unfolding after
after_inner k t h = grind arith

pub after_last : (k t : ℕ) → suc t ≡ k → after k t ≡ 0
unfolding after
after_last k t h = grind arith

pub after_below : (k t : ℕ) → t < k → after k t < k
unfolding after
after_below k t h = grind arith

pub after_other : (k t : ℕ) → 3 ≤ k → t < k → after k t ≢ t
unfolding after
after_other k t h l = grind arith

pub after_after_other : (k t : ℕ) → 3 ≤ k → t < k → after k (after k t) ≢ t
unfolding after
after_after_other k t h l = grind arith

pub after_same : (k t s : ℕ) → t < k → s < k → after k t ≡ after k s → t ≡ s
unfolding after
after_same k t s l m e = grind arith

-- each place is after another one
pub before : (k t : ℕ) → t < k → (s : ℕ) × (s < k) × (after k s ≡ t)
before k zero l = (k - 1, omega arith, after_last k (k - 1) (omega arith))
before k (suc t) l = (t, omega arith, after_inner k t l)

-- ---- places of a turned cycle
pub shifted_below : (k j t : ℕ) → j ≤ k → t < k → shifted k j t < k
unfolding shifted
shifted_below k j t h l = grind arith

pub shifted_after : (k j t : ℕ) → j ≤ k → t < k → shifted k j (after k t) ≡ after k (shifted k j t)
unfolding shifted after
shifted_after k j t h l = grind arith

pub shifted_same : (k j t s : ℕ) → j ≤ k → t < k → s < k → shifted k j t ≡ shifted k j s → t ≡ s
unfolding shifted
shifted_same k j t s h l m e = grind arith

pub shifted_early : (k j t : ℕ) → t + j < k → shifted k j t ≡ t + j
unfolding shifted
shifted_early k j t l = grind arith

pub shifted_late : (k j t : ℕ) → k ≤ t + j → shifted k j t ≡ t + j - k
unfolding shifted
shifted_late k j t l = grind arith

pub shifted_first : (k j : ℕ) → j < k → shifted k j 0 ≡ j
unfolding shifted
shifted_first k j h = grind arith

pub shifted_next : (k j t : ℕ) → j < k → t < k → after k (shifted k j t) ≡ shifted k j (suc t)
unfolding after shifted
shifted_next k j t h l = grind arith

-- each place is some places after j
pub place_back : (k j s : ℕ) → j ≤ k → s < k → (t : ℕ) × (t < k) × (shifted k j t ≡ s)
place_back k j s l ls =
    elim (below_same_above s j) [
      | inl lt ↦ (s + (k - j), omega arith, shifted_late k j (s + (k - j)) (omega arith) ∙ omega arith)
      | inr o ↦ (s - j, omega (arith, o), shifted_early k j (s - j) (omega (arith, o)) ∙ omega (arith, o))
    ]

-- a cycle that begins after t ends with t
pub last_is : (k t : ℕ) → t < k → shifted k (after k t) (k - 1) ≡ t
last_is k t l =
    elim (same_or_not (suc t) k) [
      | inl e ↦ ap (λ (j : ℕ). shifted k j (k - 1)) (after_last k t e) ∙ shifted_early k 0 (k - 1) (omega arith) ∙ omega arith
      | inr ne ↦ ap (λ (j : ℕ). shifted k j (k - 1)) (after_inner k t (omega arith)) ∙ shifted_late k (suc t) (k - 1) (omega arith) ∙ omega arith
    ]

pub shifted_corner : (n : ℕ → Vec3) (k j t : ℕ) → j ≤ k → t < k → corner k (λ u. n (shifted k j u)) t ≡ corner k n (shifted k j t)
unfolding corner
shifted_corner n k j t h l = ap (λ (u : ℕ). cross (n (shifted k j t)) (n u)) (shifted_after k j t h l)

-- ---- corners
-- only the places below k count
pub corner_same : (k : ℕ) (n o : ℕ → Vec3) → ((t : ℕ) → t < k → o t ≡ n t) → (t : ℕ) → t < k → corner k o t ≡ corner k n t
unfolding corner
corner_same k n o e t l = ap (λ (w : Vec3). cross w (o (after k t))) (e t l) ∙ ap (λ (w : Vec3). cross (n t) w) (e (after k t) (after_below k t l))

-- a corner is zero on its own two planes
pub on_own_first : (k : ℕ) (n : ℕ → Vec3) (t : ℕ) → inner (n t) (corner k n t) ≡ pos 0
unfolding corner
on_own_first k n t = own_first (n t) (n (after k t))

pub on_own_second : (k : ℕ) (n : ℕ → Vec3) (t : ℕ) → inner (n (after k t)) (corner k n t) ≡ pos 0
unfolding corner
on_own_second k n t = own_second (n t) (n (after k t))

-- no corner is negative on a member
pub corner_nonneg : (k : ℕ) (n : ℕ → Vec3) → Convex k n → (s t : ℕ) → s < k → t < k → pos 0 ≤ℤ inner (n s) (corner k n t)
corner_nonneg k n c s t ls lt =
    elim (same_or_not s t) [
      | inl e ↦ subst (λ (i : ℕ). pos 0 ≤ℤ inner (n i) (corner k n t)) (sym e) (omega (arith, ints, on_own_first k n t))
      | inr a ↦ elim (same_or_not s (after k t)) [
        | inl e ↦ subst (λ (i : ℕ). pos 0 ≤ℤ inner (n i) (corner k n t)) (sym e) (omega (arith, ints, on_own_second k n t))
        | inr b ↦ omega (arith, ints, c.strict t s lt ls a b)
      ]
    ]

-- the member after the next one is positive on a corner, and a member on the corner after it
pub turn : (k : ℕ) (n : ℕ → Vec3) (t : ℕ) → Convex k n → t < k → pos 0 <ℤ inner (n (after k (after k t))) (corner k n t)
turn k n t c l =
    c.strict t (after k (after k t)) l (after_below k (after k t) (after_below k t l))
    (after_after_other k t c.three l) (after_other k (after k t) c.three (after_below k t l))

pub positive_corner : (n : ℕ → Vec3) (k t : ℕ) → Convex k n → t < k → pos 0 <ℤ inner (n t) (corner k n (after k t))
positive_corner n k t c l =
    c.strict (after k t) t (after_below k t l) l (λ e. after_other k t c.three l (sym e)) (λ e. after_after_other k t c.three l (sym e))

-- ---- a convex cycle by determinants
pub corner_det : (k : ℕ) (n : ℕ → Vec3) (t s : ℕ) → det (n t) (n (after k t)) (n s) ≡ inner (n s) (corner k n t)
unfolding corner
corner_det k n t s = det_turned (n t) (n (after k t)) (n s)

pub edge_plane_corner : (k : ℕ) (v : ℕ → Vec3) (t : ℕ) → edge_plane k v t ≡ corner k v t
unfolding corner
edge_plane_corner k v t = λ i. corner k v t

-- the side of a member on an edge
pub side_on_edge : (k : ℕ) (v : ℕ → Vec3) (t s : ℕ) → inner (edge_plane k v t) (v s) ≡ inner (v s) (corner k v t)
unfolding corner
side_on_edge k v t s = inner_turned (edge_plane k v t) (v s)

pub convex_by_det : (k : ℕ) (n : ℕ → Vec3) → 3 ≤ k
    → ((t s : ℕ) → t < k → s < k → s ≢ t → s ≢ after k t → pos 0 <ℤ det (n t) (n (after k t)) (n s)) → Convex k n
convex_by_det k n l h = record { three = l; strict = λ t s lt ls a b. subst (λ (z : ℤ). pos 0 <ℤ z) (corner_det k n t s) (h t s lt ls a b) }

pub det_by_convex : (k : ℕ) (n : ℕ → Vec3) → Convex k n → (t s : ℕ) → t < k → s < k → s ≢ t → s ≢ after k t → pos 0 <ℤ det (n t) (n (after k t)) (n s)
det_by_convex k n c t s lt ls a b = subst (λ (z : ℤ). pos 0 <ℤ z) (sym (corner_det k n t s)) (c.strict t s lt ls a b)
