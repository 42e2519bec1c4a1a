-- Numbers that are written as bits and read: what they are, and that they fit.
use Rattle.std.proofs.Common.{◌≡◌, ℕ, zero, suc, ℤ, pos, negsuc, ◌+ℤ◌, ◌-ℤ◌, ◌*ℤ◌, ◌*◌, ◌<◌, ◌≤◌, ◌^◌, unsigned_abs, to_z, of_z, FitsSigned, arith, refl, true, false}
use Rattle.std.proofs.lemmas.Int.{ints, unsigned_abs-mul, fits_signed_from_abs}
use lib.Signed.{lt_z}
use mir.Syntax.{w128}
use Rattle.vec_exact.specs.declared.vectors.Sign.TheVariants.{Neg, On, Pos}
use Rattle.vec_exact.specs.Side.{sign_of}
use Rattle.vec_exact.proofs.Bounds.{times_at_most}

pub read_37 : (z : ℤ) → unsigned_abs z ≤ 137438953471 → unsigned_abs (to_z w128 (of_z w128 z)) < 2 ^ 37
read_37 z h = omega (arith, ints)

pub read_product : (a b : ℤ) → unsigned_abs a < 2 ^ 37 → unsigned_abs b < 2 ^ 37 → unsigned_abs (to_z w128 (of_z w128 a)) * unsigned_abs (to_z w128 (of_z w128 b)) < 2 ^ 115
read_product a b p q =
    omega (arith, times_at_most (unsigned_abs (to_z w128 (of_z w128 a))) (unsigned_abs (to_z w128 (of_z w128 b))) 137438953471 137438953471 (omega (arith, ints)) (omega (arith, ints)))

-- a difference of two numbers that is written and read at each step
pub read_two : (r s : ℤ) → unsigned_abs r < 2 ^ 115 → unsigned_abs s < 2 ^ 115 → to_z w128 (of_z w128 (to_z w128 (of_z w128 r) -ℤ to_z w128 (of_z w128 s))) ≡ r -ℤ s
read_two r s p q = omega (arith, ints)

pub difference_fits : (r s : ℤ) → unsigned_abs r < 2 ^ 115 → unsigned_abs s < 2 ^ 115 → FitsSigned w128 (to_z w128 (of_z w128 r) -ℤ to_z w128 (of_z w128 s))
difference_fits r s p q = fits_signed_from_abs w128 (to_z w128 (of_z w128 r) -ℤ to_z w128 (of_z w128 s)) (omega (arith, ints))

pub sum_fits : (r s : ℤ) → unsigned_abs r < 2 ^ 115 → unsigned_abs s < 2 ^ 115 → FitsSigned w128 (to_z w128 (of_z w128 r) +ℤ to_z w128 (of_z w128 s))
sum_fits r s p q = fits_signed_from_abs w128 (to_z w128 (of_z w128 r) +ℤ to_z w128 (of_z w128 s)) (omega (arith, ints))

pub sum_fits_3 : (r s t : ℤ) → unsigned_abs r < 2 ^ 115 → unsigned_abs s < 2 ^ 115 → unsigned_abs t < 2 ^ 115
    → FitsSigned w128 (to_z w128 (of_z w128 (to_z w128 (of_z w128 r) +ℤ to_z w128 (of_z w128 s))) +ℤ to_z w128 (of_z w128 t))
sum_fits_3 r s t p q u =
    fits_signed_from_abs w128 (to_z w128 (of_z w128 (to_z w128 (of_z w128 r) +ℤ to_z w128 (of_z w128 s))) +ℤ to_z w128 (of_z w128 t)) (omega (arith, ints))

pub product_below : (a b : ℤ) → unsigned_abs a * unsigned_abs b < 2 ^ 115 → unsigned_abs (a *ℤ b) < 2 ^ 115
product_below a b l = omega (arith, unsigned_abs-mul a b)

pub product_fits : (a b : ℤ) → unsigned_abs a * unsigned_abs b < 2 ^ 115 → FitsSigned w128 (a *ℤ b)
product_fits a b l = fits_signed_from_abs w128 (a *ℤ b) (omega (arith, product_below a b l))

-- ---- the sign of a number by tests, of which one reads its bits
pub sign_neg : (s : ℤ) → lt_z s (pos 0) ≡ true → Neg ≡ sign_of s
sign_neg (pos n) t = absurd (grind arith)
sign_neg (negsuc n) t = refl

pub sign_on : (s : ℤ) → of_z w128 s ≡ 0 → unsigned_abs s < 2 ^ 114 → On ≡ sign_of s
sign_on (pos zero) z l = refl
sign_on (pos (suc n)) z l = absurd (omega arith)
sign_on (negsuc n) z l = absurd (omega arith)

pub sign_pos : (s : ℤ) → lt_z s (pos 0) ≡ false → (of_z w128 s ≡ 0 → ⊥) → Pos ≡ sign_of s
sign_pos (pos zero) t z = absurd (z refl)
sign_pos (pos (suc n)) t z = refl
sign_pos (negsuc n) t z = absurd (grind arith)
