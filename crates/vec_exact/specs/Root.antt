-- The whole square root. Source: our own.
use Rattle.std.specs.Prelude.{ℕ, zero, suc, ◌*◌, nat_le, if◌then◌else◌}

-- the root of n, from the root r of the number before
abbrev pub next_root : ℕ → ℕ → ℕ
next_root n r = if nat_le (suc r * suc r) n then suc r else r

-- the greatest number whose square is at most n
unfoldable pub root_of : ℕ → ℕ
root_of zero = 0
root_of (suc n) = next_root (suc n) (root_of n)
