-- A quotient from a guess that is tested.
use Rattle.std.proofs.Common.{◌≡◌, ℕ, ◌+◌, ◌-◌, ◌*◌, ◌/◌, ◌<◌, ◌≤◌, arith}
use Rattle.std.proofs.lemmas.Nat.{le-div, div_below}

-- the one number whose product with d is at most x and less than d below it
pub quotient_is : (x d q : ℕ) → 0 < d → q * d ≤ x → x - q * d < d → q ≡ x / d
quotient_is x d q p low high =
    let above : q ≤ x / d = le-div q x d p low in
    let below : x / d < q + 1 = div_below x d (q + 1) p (omega (arith, low, high)) in
    omega (arith, above, below)
