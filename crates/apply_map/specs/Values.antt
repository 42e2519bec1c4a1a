-- The values of a field, which are whole numbers of 32 bits.
use Rattle.std.specs.Prelude.{◌≡◌, ◌≢◌, ℕ, ◌-◌, ◌<◌, ◌≤◌, length, slice_index_or, ℤ, pos, negsuc, ◌≤ℤ◌, ◌*ℤ◌, ◌+ℤ◌, ◌+◌, ◌*◌, List}
use Rattle.map_rows.specs.declared.rows.MapRow.{MapRow}
use Rattle.map_rows.specs.Application.{sum_over, value_at, area_at}

-- fits 32 bits with sign
abbrev pub IsInt32 : ℤ → Type 0
IsInt32 x = (negsuc 2147483647 ≤ℤ x) × (x ≤ℤ pos 2147483647)

-- the slice that begins at place `first` has a value of the row's source
abbrev pub HasValue : List ℤ → ℕ → MapRow → Type 0
HasValue values first r = (1 ≤ r.col) × (first + (r.col - 1) < length values)

-- what the row carries over in that slice: measure times value
abbrev pub carried : List ℤ → ℕ → MapRow → ℤ
carried values first r = r.s *ℤ slice_index_or values (first + (r.col - 1)) (pos 0)

-- none of the first n values is x
abbrev pub HasNoneBefore : List ℤ → ℤ → ℕ → Type 0
HasNoneBefore values x n = (k : ℕ) → k < n → slice_index_or values k (pos 0) ≢ x

-- the value with this number, from 1, is the first that is x
pub record IsFirstAt (values : List ℤ) (x : ℤ) (place : ℕ) : Type 0 where
  pub least : 1 ≤ place
  pub greatest : place ≤ length values
  pub here : slice_index_or values (place - 1) (pos 0) ≡ x
  pub before : HasNoneBefore values x (place - 1)

-- in this slice each rest is from 0 to the area of its target
abbrev pub HasRestsWithin : List ℤ → ℕ → List ℤ → Type 0
HasRestsWithin areas slice rest =
    (k : ℕ) → k < length areas → (pos 0 ≤ℤ slice_index_or rest (slice * length areas + k) (pos 0)) × (slice_index_or rest (slice * length areas + k) (pos 0) ≤ℤ slice_index_or areas k (pos 0))

-- the sum of area times value over the faces of this slice
abbrev pub slice_mass_of : List ℤ → List ℤ → ℕ → ℤ
slice_mass_of areas values slice = sum_over 1 (length areas) (λ (i : ℕ). area_at areas i *ℤ value_at values (length areas) slice i)

-- the sum of area times whole part plus rest over the faces of this slice
abbrev pub field_slice_mass_of : List ℤ → List ℤ → List ℤ → ℕ → ℤ
field_slice_mass_of areas whole rest slice =
    sum_over 1 (length areas) (λ (j : ℕ). (area_at areas j *ℤ value_at whole (length areas) slice j) +ℤ value_at rest (length areas) slice j)
