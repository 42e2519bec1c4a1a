-- Counts of what failed. They are held at 2 ^ 64 - 1, their last value.
use Rattle.std.specs.Prelude.{◌≡◌, ℕ, ◌+◌, ◌-◌, ◌^◌, ◌≤◌, min}

-- a count that was raised by a number, and held at its last value
abbrev pub held_sum : ℕ → ℕ → ℕ
held_sum count more = min (count + more) (2 ^ 64 - 1)

-- a count rose in a call: it is greater at the exit than at the entry, or stands at its last value there
abbrev pub Rose : ℕ → ℕ → Type 0
Rose before now = held_sum before 1 ≤ now

-- a count never falls, and one that stands at its last value stays there
abbrev pub IsLater : ℕ → ℕ → Type 0
IsLater before now = (before ≤ now) × (before ≡ 2 ^ 64 - 1 → now ≡ 2 ^ 64 - 1)
