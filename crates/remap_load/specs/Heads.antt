-- The head of a file: its header, and the first bytes that were read for it. Source: our own.
use Rattle.std.specs.Prelude.{◌≡◌, ◌⊎◌, ℕ, ◌*◌, ◌≤◌, ◌<◌, max, List, length, take, Some}
use Rattle.vec_exact.specs.declared.limits.TheConstants.{MAX_FILE_LEN}
use Rattle.nc_format.specs.declared.fault.NcFault.TheVariants.{Truncated}
use Rattle.nc_format.specs.Header.{IsHeader, first_fault}
use Rattle.remap_load.specs.declared.Head.{Head}

-- the first bytes begin with the header, in a file of at most 2,147,483,647 bytes
pub record IsHead (head : Head) : Type 0 where
  pub short : head.len ≤ MAX_FILE_LEN
  pub within : length head.prefix ≤ head.len
  pub header : IsHeader head.prefix head.len head.file

-- the length and the first bytes are those of a file with these bytes, and its header is that of all of them
pub record IsHeadOfBytes (head : Head) (bytes : List ℕ) : Type 0 where
  pub len : head.len ≡ length bytes
  pub front : head.prefix ≡ take (length head.prefix) bytes
  pub header : IsHeader bytes (length bytes) head.file

-- how many bytes are asked for at most for a header of so many bytes
abbrev pub header_cost : ℕ → ℕ
header_cost h = max 65536 (2 * h)

-- On the way to a head.

-- these are the first bytes of a file of this length
pub record IsFront (front : List ℕ) (len : ℕ) (bytes : List ℕ) : Type 0 where
  pub whole_len : len ≡ length bytes
  pub is_front : front ≡ take (length front) bytes

-- the first bytes end inside the header
pub record IsCut (front : List ℕ) (len : ℕ) : Type 0 where
  pub shorter : length front < len
  pub place : ℕ
  pub fault : first_fault front len ≡ Some (Truncated place)

-- The first bytes are the first 65,536, or all that there are where these are fewer, or at most twice as many as were too few.
abbrev pub IsGrown : List ℕ → ℕ → Type 0
IsGrown front len = (length front ≤ 65536) ⊎ ((fewer : ℕ) × (length front ≤ 2 * fewer) × IsCut (take fewer front) len)
