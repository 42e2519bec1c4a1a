-- How large a rounded quotient is.
use Rattle.std.proofs.Common.{◌≡◌, ℕ, ◌*◌, ◌+◌, ◌<◌, ◌≤◌, ℤ, pos, negsuc, suc, unsigned_abs, arith}
use Rattle.std.proofs.lemmas.Int.{ints}
use Rattle.std.proofs.lemmas.Nat.{div_below}
use Rattle.vec_exact.specs.Rounding.{nearest, rounded}

nearest_at_most : (n d b : ℕ) → 0 < d → n ≤ b * d → nearest n d ≤ b
nearest_at_most n d b p q =
    let room : 2 * n + d < (b + 1) * (2 * d) = omega (arith, q) in
    let below : nearest n d < b + 1 = div_below (2 * n + d) (2 * d) (b + 1) (omega arith) room in
    omega (arith, below)

pub rounded_at_most : (x : ℤ) (d b : ℕ) → 0 < d → unsigned_abs x ≤ b * d → unsigned_abs (rounded x d) ≤ b
rounded_at_most (pos n) d b p q = nearest_at_most n d b p q
rounded_at_most (negsuc n) d b p q = omega (arith, ints, nearest_at_most (suc n) d b p (omega (arith, q)))
