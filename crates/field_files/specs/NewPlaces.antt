-- The places that the dimensions of a file have among those that a field file keeps.
use Rattle.std.specs.Prelude.{◌≡◌, ℕ, ◌<◌, List, length, Option, Some, None, nat_lt, if◌then◌else◌, slice_index_or}
use Rattle.field_files.specs.FieldDocument.{place_among}

-- the place of a dimension that is kept
abbrev pub place_in : List ℕ → ℕ → Option ℕ
place_in kept id = if nat_lt (place_among kept id) (length kept) then Some (place_among kept id) else None

-- a table of so many dimensions has the place of each that is kept
pub record ArePlacesOf (kept : List ℕ) (count : ℕ) (places : List (Option ℕ)) : Type 0 where
  pub len : length places ≡ count
  pub each : (id : ℕ) → id < count → slice_index_or places id None ≡ place_in kept id
