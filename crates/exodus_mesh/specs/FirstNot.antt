-- The first of some numbers that is at fault. Source: our own.
use Rattle.std.specs.Prelude.{ℕ, Bool, not, Option}
use Rattle.std.specs.List.{position, range_with_len}

-- the first number below n that is not good
abbrev pub first_not : (ℕ → Bool) → ℕ → Option ℕ
first_not good n = position (λ k. not (good k)) (range_with_len 0 n)
