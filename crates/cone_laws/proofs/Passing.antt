-- How signs run round a cycle.
use Rattle.std.proofs.Common.{◌≡◌, ℕ, zero, suc, ◌-◌, ◌<◌, ◌≤◌, ℤ, pos, ◌≤ℤ◌, arith, inl, inr, subst}
use Rattle.vec_exact.specs.Cycle.{after}
use Rattle.vec_exact.proofs.Cycles.{same_or_not, after_inner, after_last}

passes_up : (f : ℕ → ℤ) (k : ℕ) → ((t : ℕ) → t < k → f t ≤ℤ pos 0 → f (after k t) ≤ℤ pos 0) → (a s : ℕ) → a ≤ s → s < k → f a ≤ℤ pos 0 → f s ≤ℤ pos 0
passes_up f k h a zero l ls z = subst (λ (i : ℕ). f i ≤ℤ pos 0) (omega arith) z
passes_up f k h a (suc s) l ls z =
    elim (same_or_not a (suc s)) [
      | inl e ↦ subst (λ (i : ℕ). f i ≤ℤ pos 0) e z
      | inr ne ↦ subst (λ (i : ℕ). f i ≤ℤ pos 0) (after_inner k s ls) (h s (omega arith) (passes_up f k h a s (omega arith) (omega arith) z))
    ]

-- where "not positive" passes on from each place to the next, one place that is not positive makes all so
pub passes : (f : ℕ → ℤ) (k : ℕ) → ((t : ℕ) → t < k → f t ≤ℤ pos 0 → f (after k t) ≤ℤ pos 0) → (a s : ℕ) → a < k → s < k → f a ≤ℤ pos 0 → f s ≤ℤ pos 0
passes f k h a s la ls z =
    let e : after k (k - 1) ≡ 0 = after_last k (k - 1) (omega arith) in
    let w : f 0 ≤ℤ pos 0 = subst (λ (i : ℕ). f i ≤ℤ pos 0) e (h (k - 1) (omega arith) (passes_up f k h a (k - 1) (omega arith) (omega arith) z)) in
    passes_up f k h 0 s (omega arith) ls w
