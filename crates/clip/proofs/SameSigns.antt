-- Two numbers of one sign.
use Rattle.std.proofs.Common.{◌≡◌, zero, suc, ℤ, pos, negsuc, ◌≤ℤ◌, ◌<ℤ◌, arith}
use Rattle.std.proofs.lemmas.Int.{ints}
use Rattle.vec_exact.specs.Side.{sign_of}

pub same_pos : (x y : ℤ) → sign_of x ≡ sign_of y → pos 0 <ℤ x → pos 0 <ℤ y
same_pos (pos zero) y e h = absurd (omega (arith, ints))
same_pos (negsuc n) y e h = absurd (omega (arith, ints))
same_pos (pos (suc n)) (pos zero) e h = cc
same_pos (pos (suc n)) (pos (suc m)) e h = omega (arith, ints)
same_pos (pos (suc n)) (negsuc m) e h = cc

pub same_neg : (x y : ℤ) → sign_of x ≡ sign_of y → x <ℤ pos 0 → y <ℤ pos 0
same_neg (pos n) y e h = absurd (omega (arith, ints))
same_neg (negsuc n) (pos zero) e h = cc
same_neg (negsuc n) (pos (suc m)) e h = cc
same_neg (negsuc n) (negsuc m) e h = omega (arith, ints)

pub same_nonpos : (x y : ℤ) → sign_of x ≡ sign_of y → x ≤ℤ pos 0 → y ≤ℤ pos 0
same_nonpos (pos (suc n)) y e h = absurd (omega (arith, ints))
same_nonpos (pos zero) (pos zero) e h = omega (arith, ints)
same_nonpos (pos zero) (pos (suc m)) e h = cc
same_nonpos (pos zero) (negsuc m) e h = omega (arith, ints)
same_nonpos (negsuc n) (pos zero) e h = omega (arith, ints)
same_nonpos (negsuc n) (pos (suc m)) e h = cc
same_nonpos (negsuc n) (negsuc m) e h = omega (arith, ints)

pub same_nonneg : (x y : ℤ) → sign_of x ≡ sign_of y → pos 0 ≤ℤ x → pos 0 ≤ℤ y
same_nonneg (negsuc n) y e h = absurd (omega (arith, ints))
same_nonneg (pos zero) (pos m) e h = omega (arith, ints)
same_nonneg (pos zero) (negsuc m) e h = cc
same_nonneg (pos (suc n)) (pos m) e h = omega (arith, ints)
same_nonneg (pos (suc n)) (negsuc m) e h = cc
