-- Quotients rounded to the nearest whole number.
use Rattle.std.specs.Prelude.{ℕ, suc, ◌+◌, ◌*◌, ◌/◌, ℤ, pos, negsuc, neg_ℤ}

-- n / d to the nearest whole number, a half upwards
abbrev pub nearest : ℕ → ℕ → ℕ
nearest n d = (2 * n + d) / (2 * d)

-- x / d to the nearest whole number, a half away from zero
abbrev pub rounded : ℤ → ℕ → ℤ
rounded (pos n) d = pos (nearest n d)
rounded (negsuc n) d = neg_ℤ (pos (nearest (suc n) d))
