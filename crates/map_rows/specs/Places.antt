-- The places of a field, slice by slice and in each by target, of which some are written. Source: our own.
use Rattle.std.specs.Prelude.{◌≡◌, ℕ, ◌+◌, ◌*◌, ◌<◌, ◌≤◌, ◌⊎◌, ℤ, pos, List, length, slice_index_or}

-- the number at this place is what `goal` says of its slice and its target, of which there are n, both from 0
pub record IsGoalAt (n : ℕ) (goal : ℕ → ℕ → ℤ) (xs : List ℤ) (place : ℕ) : Type 0 where
  pub slice : ℕ
  pub target : ℕ
  pub within : target < n
  pub is : place ≡ slice * n + target
  pub value : slice_index_or xs place (pos 0) ≡ goal slice target

-- in the slices from `from` up to `to`, the targets from `first` up to `last` are as `goal` says, and every place is as it was or as `goal` says
pub record IsPut (n : ℕ) (goal : ℕ → ℕ → ℤ) (from to first last : ℕ) (old new : List ℤ) : Type 0 where
  pub size : length new ≡ length old
  pub kept : (place : ℕ) → (slice_index_or new place (pos 0) ≡ slice_index_or old place (pos 0)) ⊎ (IsGoalAt n goal new place)
  pub done : (slice target : ℕ) → from ≤ slice → slice < to → first ≤ target → target < last → slice_index_or new (slice * n + target) (pos 0) ≡ goal slice target
