-- Sums in 64 bits.
use Rattle.std.proofs.Common.{◌≡◌, ◌<◌, ◌^◌, ℤ, ◌+ℤ◌, unsigned_abs, arith, to_z, of_z}
use Rattle.std.proofs.lemmas.Int.{ints}
use mir.Syntax.{w64}

pub read_three : (r s t : ℤ) → unsigned_abs r < 2 ^ 55 → unsigned_abs s < 2 ^ 55 → unsigned_abs t < 2 ^ 55
    → to_z w64 (of_z w64 (to_z w64 (of_z w64 (to_z w64 (of_z w64 r) +ℤ to_z w64 (of_z w64 s))) +ℤ to_z w64 (of_z w64 t))) ≡ r +ℤ s +ℤ t
read_three r s t p q u = omega (arith, ints)
