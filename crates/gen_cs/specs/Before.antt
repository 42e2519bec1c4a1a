-- How many nodes stand before a place in the order of nodes, by formula. Source: our own.
use Rattle.std.specs.Prelude.{ℕ, ◌+◌, ◌-◌, ◌*◌, ◌==◌, ◌||◌, if◌then◌else◌}
use Rattle.gen_cs.specs.CubedSphere.{is_end}

-- in the slices before slice a: the first one is full, and each further one has its border alone
abbrev pub before_slice : ℕ → ℕ → ℕ
before_slice n a = if a == 0 then 0 else (n + 1) * (n + 1) + (a - 1) * (4 * n)

-- in slice a, in the rows before row b
abbrev pub before_row : ℕ → ℕ → ℕ → ℕ
before_row n a b = if is_end n a then b * (n + 1) else (if b == 0 then 0 else n + 1 + (b - 1) * 2)

-- in the row of a and b, before place c
abbrev pub before_place : ℕ → ℕ → ℕ → ℕ → ℕ
before_place n a b c = if is_end n a || is_end n b then c else (if c == 0 then 0 else 1)
