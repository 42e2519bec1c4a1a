-- The end of values, by numbers that stop at a bound.
use Rattle.std.proofs.Common.{◌≡◌, ℕ, ◌+◌, ◌*◌, ◌^◌, ap, ◌∙◌, min, arith}
use Rattle.std.proofs.Math.Nat.{mul_comm}
use Rattle.nc_write.proofs.Lens.{stop_front}

pub end_is : (n s q b : ℕ) → min (min (min (n * min s (2 ^ 63)) (2 ^ 63) + min q (2 ^ 63)) (2 ^ 63) + b) (2 ^ 63) ≡ min (b + n * s + q) (2 ^ 63)
end_is n s q b =
    let k : min (n * min s (2 ^ 63)) (2 ^ 63) ≡ min (n * s) (2 ^ 63) = ap (λ x. min x (2 ^ 63)) (mul_comm n (min s (2 ^ 63))) ∙ stop_front s n (2 ^ 63) ∙ ap (λ x. min x (2 ^ 63)) (mul_comm s n) in
    omega (arith, k)
