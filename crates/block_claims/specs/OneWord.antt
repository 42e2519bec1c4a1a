-- The rule on the table of one word, and what each step on the word does to a view.
use Rattle.std.specs.Prelude.{◌≡◌, ℕ, ◌+◌, ◌≤◌, nat_lt, if◌then◌else◌, [], ◌∷◌, ◌++◌, length, Contains, Some, slice_index}
use Rattle.atomic_table.specs.Table.{State, Me, Step}
use Rattle.block_claims.specs.declared.rule.View.{View}
use Rattle.block_claims.specs.Views.{further_view}
use Rattle.block_claims.specs.Claimed.{IsClaimed}
use Rattle.block_claims.specs.Seen.{IsWhole}

-- the table has one word, and word, number of blocks and views meet the rule
abbrev pub IsOneClaimedWord : ℕ → State (Unit {0}) View → Type 0
IsOneClaimedWord n s = (s.words ≡ slice_index s.words 0 ∷ []) × IsClaimed n (slice_index s.words 0) s.views

-- a draw: the word that was found is the number of a block, or the last word
abbrev pub drawn_view : View → ℕ → View
drawn_view v found = if nat_lt found v.blocks then record v { mine = v.mine ++ found ∷ [] } else record v { last = Some found }

abbrev pub Drew : Step (Unit {0}) → Me (Unit {0}) View → ℕ → Me (Unit {0}) View → Type 0
Drew step me found after = (after.0 ≡ drawn_view me.0 found) × (after.1 ≡ []) × (¬ Contains me.0.mine found) × IsWhole after.0 × (length after.0.mine ≤ after.0.blocks)

-- a split: the first view afterwards, and the new one
abbrev pub split_view : View → View
split_view v = record v { made = v.made + 1 }

abbrev pub new_view : View → View
new_view v = further_view v.blocks

-- a join: the first view afterwards
abbrev pub joined_view : View → View → View
joined_view v u = record v { mine = v.mine ++ u.mine; back = v.back + 1 }

-- a look changes nothing
abbrev pub Looked : Step (Unit {0}) → Me (Unit {0}) View → ℕ → Me (Unit {0}) View → Type 0
Looked step me found after = (after.0 ≡ me.0) × (after.1 ≡ []) × IsWhole after.0
