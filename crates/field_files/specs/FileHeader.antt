-- The header of a file that is short enough to be read.
use Rattle.std.specs.Prelude.{ℕ, ◌≤◌, List, [], length, Option, Some, None, slice_get}
use Rattle.nc_format.specs.declared.NcFile.{NcFile}
use Rattle.nc_format.specs.declared.NcVar.{NcVar}
use Rattle.nc_format.specs.Header.{IsHeader}

-- the first bytes of a file of at most 2,147,483,647 bytes begin with this header
pub record IsFileHeader (file : NcFile) : Type 0 where
  pub front : List ℕ
  pub len : ℕ
  pub within : length front ≤ len
  pub short : len ≤ 2147483647
  pub header : IsHeader front len file

-- the dimensions of a variable, by their places in the list of dimensions, from 0
abbrev pub dims_of : Option NcVar → List ℕ
dims_of None = []
dims_of (Some v) = v.dims

-- those of the variable at a place
abbrev pub dims_at : NcFile → ℕ → List ℕ
dims_at file place = dims_of (slice_get file.vars place)
