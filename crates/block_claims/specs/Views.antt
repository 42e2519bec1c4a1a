-- The views of tickets, by their kinds (our own).
use Rattle.std.specs.Prelude.{◌≡◌, ℕ, ◌==◌, nat_lt, if◌then◌else◌, Bool, true, false, ◌||◌, List, [], None, is_some, count_by}
use Rattle.block_claims.specs.declared.rule.Kind.{Kind}
use Rattle.block_claims.specs.declared.rule.Kind.TheVariants.{First, Further, Spent}
use Rattle.block_claims.specs.declared.rule.View.{View}

abbrev pub is_first : Kind → Bool
is_first First = true
is_first Further = false
is_first Spent = false

abbrev pub is_spent : Kind → Bool
is_spent First = false
is_spent Further = false
is_spent Spent = true

-- the views of new tickets on n blocks, and that of a ticket that was taken back
abbrev pub first_view : ℕ → View
first_view n = record { kind = First; blocks = n; mine = []; last = None; made = 1; back = 0 }

abbrev pub further_view : ℕ → View
further_view n = record { kind = Further; blocks = n; mine = []; last = None; made = 0; back = 0 }

abbrev pub spent_view : View
spent_view = record { kind = Spent; blocks = 0; mine = []; last = None; made = 0; back = 0 }

-- a ticket is done once it has found that no block is left
abbrev pub is_done : View → Bool
is_done v = is_some v.last

abbrev pub is_done_or_spent : View → Bool
is_done_or_spent v = is_spent v.kind || is_done v

-- how often x stands in the list
abbrev pub times : ℕ → List ℕ → ℕ
times x xs = count_by (λ y. y == x) xs

-- the list has each number below n exactly once, and no other number
abbrev pub HoldsEachOnce : ℕ → List ℕ → Type 0
HoldsEachOnce n xs = (x : ℕ) → times x xs ≡ (if nat_lt x n then 1 else 0)
