-- Cycles that are turned, or given by other functions that agree below their length.
use Rattle.std.proofs.Common.{◌≡◌, ◌≢◌, ℕ, suc, ◌<◌, ◌≤◌, pos, ◌≤ℤ◌, ◌<ℤ◌, arith, ap, sym, ◌∙◌, inl, inr, subst}
use Rattle.vec_exact.specs.declared.Vec3.{Vec3}
use Rattle.vec_exact.specs.Vector.{inner}
use Rattle.vec_exact.specs.Side.{SameDirection}
use Rattle.vec_exact.specs.Cycle.{after, shifted, corner, Convex}
use Rattle.vec_exact.proofs.Cycles.{same_or_not, after_below, shifted_below, shifted_after, shifted_same, shifted_corner, corner_same}
use Rattle.cone_laws.specs.Ring.{IsCycle}

-- the planes that the numbers g name
abbrev pub planes_of : (ℕ → Vec3) → (ℕ → ℕ) → ℕ → Vec3
planes_of p g t = p (g t)

pub turned_convex : (k j : ℕ) (n : ℕ → Vec3) → j ≤ k → Convex k n → Convex k (λ t. n (shifted k j t))
turned_convex k j n h c = record {
  three = c.three;
  strict = λ t s lt ls a b. subst (λ (x : Vec3). pos 0 <ℤ inner (n (shifted k j s)) x) (sym (shifted_corner n k j t h lt))
      (c.strict (shifted k j t) (shifted k j s) (shifted_below k j t h lt) (shifted_below k j s h ls)
      (λ e. a (shifted_same k j s t h ls lt e)) (λ e. b (shifted_same k j s (after k t) h ls (after_below k t lt) (e ∙ sym (shifted_after k j t h lt)))));
}

pub turned : (p : ℕ → Vec3) (m k : ℕ) (g : ℕ → ℕ) (j : ℕ) → j ≤ k → IsCycle p m k g → IsCycle p m k (λ t. g (shifted k j t))
turned p m k g j h c = record {
  least_number = λ t l. c.least_number (shifted k j t) (shifted_below k j t h l);
  greatest_number = λ t l. c.greatest_number (shifted k j t) (shifted_below k j t h l);
  different = λ t s lt ls e. shifted_same k j t s h lt ls (c.different (shifted k j t) (shifted k j s) (shifted_below k j t h lt) (shifted_below k j s h ls) e);
  convex = turned_convex k j (planes_of p g) h c.convex;
  covered = λ i t a b l. subst (λ (x : Vec3). pos 0 ≤ℤ inner (p i) x) (sym (shifted_corner (planes_of p g) k j t h l)) (c.covered i (shifted k j t) a b (shifted_below k j t h l));
  earliest = λ t i l. c.earliest (shifted k j t) i (shifted_below k j t h l);
}

-- only the places below k count
pub same_convex : (k : ℕ) (n o : ℕ → Vec3) → ((t : ℕ) → t < k → o t ≡ n t) → Convex k n → Convex k o
same_convex k n o e c = record {
  three = c.three;
  strict = λ t s lt ls a b. subst (λ (w : Vec3). pos 0 <ℤ inner w (corner k o t)) (sym (e s ls))
      (subst (λ (w : Vec3). pos 0 <ℤ inner (n s) w) (sym (corner_same k n o e t lt)) (c.strict t s lt ls a b));
}

pub same_corner : (p : ℕ → Vec3) (k : ℕ) (g h : ℕ → ℕ) → ((t : ℕ) → t < k → h t ≡ g t) → (t : ℕ) → t < k → corner k (planes_of p h) t ≡ corner k (planes_of p g) t
same_corner p k g h e = corner_same k (planes_of p g) (planes_of p h) (λ t l. ap p (e t l))

pub same_cycle : (p : ℕ → Vec3) (m k : ℕ) (g h : ℕ → ℕ) → ((t : ℕ) → t < k → h t ≡ g t) → IsCycle p m k g → IsCycle p m k h
same_cycle p m k g h e c = record {
  least_number = λ t l. omega (arith, e t l, c.least_number t l);
  greatest_number = λ t l. omega (arith, e t l, c.greatest_number t l);
  different = λ t s lt ls q. c.different t s lt ls (sym (e t lt) ∙ q ∙ e s ls);
  convex = same_convex k (planes_of p g) (planes_of p h) (λ t l. ap p (e t l)) c.convex;
  covered = λ i t a b l. subst (λ (w : Vec3). pos 0 ≤ℤ inner (p i) w) (sym (same_corner p k g h e t l)) (c.covered i t a b l);
  earliest = λ t i l. subst (λ (q : ℕ). 1 ≤ i → i ≤ m → i ≢ q → SameDirection (p q) (p i) → q < i) (sym (e t l)) (c.earliest t i l);
}

-- one more plane that is negative on no corner changes nothing
pub kept : (p : ℕ → Vec3) (m k : ℕ) (g : ℕ → ℕ) → IsCycle p m k g → ((t : ℕ) → t < k → pos 0 ≤ℤ inner (p (suc m)) (corner k (planes_of p g) t)) → IsCycle p (suc m) k g
kept p m k g c h = record {
  least_number = c.least_number;
  greatest_number = λ t l. omega (arith, c.greatest_number t l);
  different = c.different;
  convex = c.convex;
  covered = λ i t l r lt. elim (same_or_not i (suc m)) [
    | inl e ↦ subst (λ (q : ℕ). pos 0 ≤ℤ inner (p q) (corner k (planes_of p g) t)) (sym e) (h t lt)
    | inr ne ↦ c.covered i t l (omega arith) lt
  ];
  earliest = λ t i lt l r ne same. elim (same_or_not i (suc m)) [
    | inl e ↦ omega (arith, c.greatest_number t lt)
    | inr o ↦ c.earliest t i lt l (omega arith) ne same
  ];
}
