-- How large the products of triples on the grid are, and their sums.
use Rattle.std.proofs.Common.{ℕ, ◌*◌, ◌<◌, ◌≤◌, ◌^◌, ℤ, pos, Bool, true, false, cond, int_lt, ◌+ℤ◌, ◌*ℤ◌, unsigned_abs, arith, lit≤, FitsSigned}
use Rattle.std.proofs.lemmas.Int.{ints, fits_signed_from_abs}
use mir.Syntax.{w128}
use Rattle.std.specs.Int.{int_max}
use Rattle.vec_exact.specs.declared.Vec3.{Vec3}
use Rattle.vec_exact.specs.Vector.{inner}
use Rattle.vec_exact.specs.Size.{Within}
use Rattle.vec_exact.proofs.Bounds.{inner_at_most, product_at_most}

-- an inner product is at most 3 * 2^56 in size
pub inner_small : (a b : Vec3) → Within 268435456 a → Within 268435456 b → unsigned_abs (inner a b) ≤ 216172782113783808
inner_small a b p q = inner_at_most a b 268435456 268435456 216172782113783808 p q (lit≤ tt)

-- times a length it is below 2^87 in size
pub weighted_small : (a b : Vec3) (l : ℤ) → Within 268435456 a → Within 268435456 b → unsigned_abs l < 2 ^ 29 → unsigned_abs (inner a b *ℤ l) < 2 ^ 87
weighted_small a b l p q h =
    omega (arith, product_at_most (inner a b) l 216172782113783808 536870911 (inner_small a b p q) (omega (arith, h)))

-- two lengths make a product below 2^58, and three one below 2^87
pub two_lengths_small : (k l : ℤ) → unsigned_abs k < 2 ^ 29 → unsigned_abs l < 2 ^ 29 → unsigned_abs (k *ℤ l) < 2 ^ 58
two_lengths_small k l p q = omega (arith, product_at_most k l 536870911 536870911 (omega (arith, p)) (omega (arith, q)))

pub three_lengths_small : (k l m : ℤ) → unsigned_abs k < 2 ^ 29 → unsigned_abs l < 2 ^ 29 → unsigned_abs m < 2 ^ 29 → unsigned_abs (k *ℤ l *ℤ m) < 2 ^ 87
three_lengths_small k l m p q r =
    omega (arith, product_at_most (k *ℤ l) m 288230376151711743 536870911 (omega (arith, two_lengths_small k l p q)) (omega (arith, r)))

-- the sums of the first two, three and four of four such products fit
pub record FitsSums (p q r s : ℤ) : Type 0 where
  pub two : FitsSigned w128 (p +ℤ q)
  pub three : FitsSigned w128 (p +ℤ q +ℤ r)
  pub four : FitsSigned w128 (p +ℤ q +ℤ r +ℤ s)
  pub small : unsigned_abs (p +ℤ q +ℤ r +ℤ s) < 2 ^ 90

pub sums_fit : (p q r s : ℤ) → unsigned_abs p < 2 ^ 87 → unsigned_abs q < 2 ^ 87 → unsigned_abs r < 2 ^ 87 → unsigned_abs s < 2 ^ 87 → FitsSums p q r s
sums_fit p q r s hp hq hr hs =
    let two : unsigned_abs (p +ℤ q) < 2 ^ 88 = below p q (2 ^ 87) hp hq in
    let three : unsigned_abs (p +ℤ q +ℤ r) < 2 ^ 89 = below (p +ℤ q) r (2 ^ 88) two (omega (arith, hr)) in
    let four : unsigned_abs (p +ℤ q +ℤ r +ℤ s) < 2 ^ 90 = below (p +ℤ q +ℤ r) s (2 ^ 89) three (omega (arith, hs)) in
    record {
      two = fits_signed_from_abs w128 (p +ℤ q) (omega (arith, two));
      three = fits_signed_from_abs w128 (p +ℤ q +ℤ r) (omega (arith, three));
      four = fits_signed_from_abs w128 (p +ℤ q +ℤ r +ℤ s) (omega (arith, four));
      small = four;
    }
  where
    below : (p q : ℤ) (n : ℕ) → unsigned_abs p < n → unsigned_abs q < n → unsigned_abs (p +ℤ q) < 2 * n
    below p q n h g = omega (arith, ints, h, g)

-- raised to 1, a number stays below a limit above 1
pub raised_small : (z : ℤ) → unsigned_abs z < 2 ^ 90 → unsigned_abs (int_max z (pos 1)) < 2 ^ 90
raised_small z h = elim (int_lt (pos 1) z) as (λ (b : Bool). unsigned_abs (cond b z (pos 1)) < 2 ^ 90) [ true ↦ h | false ↦ omega arith ]
