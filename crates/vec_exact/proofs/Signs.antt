-- The signs of products.
use Rattle.std.proofs.Common.{◌≡◌, ℕ, zero, suc, ◌*◌, ◌<◌, ℤ, pos, negsuc, ◌*ℤ◌, ◌≤ℤ◌, ◌<ℤ◌, arith, refl, ◌⊎◌, inl, inr}
use Rattle.std.proofs.lemmas.Int.{ints}
use Rattle.std.proofs.Math.IntN.{*ℤ_comm}
use borrow.Author.Differences.{product_is}
use lib.Signed.{◌≤ℤ◌, ◌<ℤ◌}

pub nonneg_times : (a b : ℤ) → pos 0 ≤ℤ a → pos 0 ≤ℤ b → pos 0 ≤ℤ (a *ℤ b)
nonneg_times (pos a) (pos b) p q = omega (arith, ints)
nonneg_times (pos a) (negsuc b) p q = absurd (omega (arith, ints))
nonneg_times (negsuc a) b p q = absurd (omega (arith, ints))

one_at_least : (a b : ℕ) → 0 < a → 0 < b → 0 < a * b
one_at_least a b p q = grind arith

pub pos_times : (a b : ℤ) → pos 0 <ℤ a → pos 0 <ℤ b → pos 0 <ℤ (a *ℤ b)
pos_times (pos a) (pos b) p q = omega (arith, ints, one_at_least a b (omega (arith, ints)) (omega (arith, ints)))
pos_times (pos a) (negsuc b) p q = absurd (omega (arith, ints))
pos_times (negsuc a) b p q = absurd (omega (arith, ints))

-- what a positive factor leaves
pub nonneg_cancel : (k a : ℤ) → pos 0 <ℤ k → pos 0 ≤ℤ (k *ℤ a) → pos 0 ≤ℤ a
nonneg_cancel k (pos a) p q = omega (arith, ints)
nonneg_cancel (pos k) (negsuc a) p q = absurd (omega (arith, ints, one_at_least k (suc a) (omega (arith, ints)) (omega arith)))
nonneg_cancel (negsuc k) (negsuc a) p q = absurd (omega (arith, ints))

pub pos_cancel : (k a : ℤ) → pos 0 <ℤ k → pos 0 <ℤ (k *ℤ a) → pos 0 <ℤ a
pos_cancel k (pos zero) p q = absurd (omega (arith, ints, *ℤ_comm k (pos 0), product_is k (pos 0)))
pos_cancel k (pos (suc a)) p q = omega (arith, ints)
pos_cancel (pos k) (negsuc a) p q = absurd (omega (arith, ints, one_at_least k (suc a) (omega (arith, ints)) (omega arith)))
pos_cancel (negsuc k) (negsuc a) p q = absurd (omega (arith, ints))

pub by_sign : (a : ℤ) → (pos 0 ≤ℤ a) ⊎ (a <ℤ pos 0)
by_sign (pos a) = inl (omega (arith, ints))
by_sign (negsuc a) = inr (omega (arith, ints))

pub by_strict_sign : (a : ℤ) → (pos 0 <ℤ a) ⊎ (a ≤ℤ pos 0)
by_strict_sign (pos zero) = inr (omega (arith, ints))
by_strict_sign (pos (suc a)) = inl (omega (arith, ints))
by_strict_sign (negsuc a) = inr (omega (arith, ints))

-- a positive product with one factor not negative
pub pos_factor : (a b : ℤ) → pos 0 ≤ℤ a → pos 0 <ℤ (a *ℤ b) → pos 0 <ℤ b
pos_factor (pos zero) b p q = absurd (omega (arith, ints, product_is (pos 0) b))
pos_factor (pos (suc a)) b p q = pos_cancel (pos (suc a)) b (omega (arith, ints)) q
pos_factor (negsuc a) b p q = absurd (omega (arith, ints))

pub zero_cancel : (k a : ℤ) → pos 0 <ℤ k → (k *ℤ a) ≡ pos 0 → a ≡ pos 0
zero_cancel k (pos zero) p q = refl
zero_cancel k (pos (suc a)) p q = absurd (omega (arith, ints, pos_times k (pos (suc a)) p (omega (arith, ints))))
zero_cancel (pos k) (negsuc a) p q = absurd (omega (arith, ints, one_at_least k (suc a) (omega (arith, ints)) (omega arith)))
zero_cancel (negsuc k) (negsuc a) p q = absurd (omega (arith, ints))

pub square_nonneg : (a : ℤ) → pos 0 ≤ℤ (a *ℤ a)
square_nonneg (pos a) = omega (arith, ints)
square_nonneg (negsuc a) = omega (arith, ints)

pub pos_times_neg : (a b : ℤ) → pos 0 <ℤ a → b <ℤ pos 0 → (a *ℤ b) <ℤ pos 0
pos_times_neg a (pos b) p q = absurd (omega (arith, ints))
pos_times_neg (pos a) (negsuc b) p q = omega (arith, ints, one_at_least a (suc b) (omega (arith, ints)) (omega arith))
pos_times_neg (negsuc a) (negsuc b) p q = absurd (omega (arith, ints))

pub times_nonpos : (k : ℕ) (a : ℤ) → a ≤ℤ pos 0 → (pos k *ℤ a) ≤ℤ pos 0
times_nonpos k (pos zero) p = omega (arith, ints)
times_nonpos k (pos (suc a)) p = absurd (omega (arith, ints))
times_nonpos k (negsuc a) p = omega (arith, ints)

pub square_zero : (a : ℤ) → (a *ℤ a) ≤ℤ pos 0 → a ≡ pos 0
square_zero (pos zero) h = refl
square_zero (pos (suc n)) h = absurd (omega (arith, ints))
square_zero (negsuc n) h = absurd (omega (arith, ints))
