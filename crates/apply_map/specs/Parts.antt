-- Parts of a field that are put target by target. The numbers of a field stand slice by slice, and in each by target, of
-- which there are n. Source: our own.
use Rattle.std.specs.Prelude.{◌≡◌, ℕ, ◌+◌, ◌*◌, ◌<◌, ◌≤◌, ◌⊎◌, ℤ, pos, List, length, slice_index_or}

-- the first slice in which this target, from 0, stands at the place `from` or behind it
pub record IsFirstSlice (n from target slice : ℕ) : Type 0 where
  pub reached : from ≤ slice * n + target
  pub before : (s : ℕ) → s < slice → s * n + target < from

-- in a part that begins at the place `from`, the numbers of this target are those of the field, and every number is as it was or that of the field
pub record IsTargetPut (n : ℕ) (field : List ℤ) (from target : ℕ) (old new : List ℤ) : Type 0 where
  pub size : length new ≡ length old
  pub kept : (k : ℕ) → (slice_index_or new k (pos 0) ≡ slice_index_or old k (pos 0)) ⊎ (slice_index_or new k (pos 0) ≡ slice_index_or field (from + k) (pos 0))
  pub done : (k slice : ℕ) → k < length old → from + k ≡ slice * n + target → slice_index_or new k (pos 0) ≡ slice_index_or field (from + k) (pos 0)
