-- The leading places of a size, and their reciprocal. Source: our own.
use Rattle.std.specs.Prelude.{◌≡◌, ℕ, ◌/◌, ◌≤◌, ◌<◌, ◌^◌, ◌⊎◌}

-- without its p lowest places the size has at most 33, all 33 if any place is left out, and r is 2^63 divided by them
pub record IsScale (size p r : ℕ) : Type 0 where
  pub few : p ≤ 42
  pub head : size / 2 ^ p < 2 ^ 33
  pub whole : (p ≡ 0) ⊎ (2 ^ 32 ≤ size / 2 ^ p)
  pub some : 0 < size / 2 ^ p
  pub reciprocal : r ≡ 2 ^ 63 / (size / 2 ^ p)
