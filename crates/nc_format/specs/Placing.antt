-- Where the values of variables stand, and which of them a file of some length holds (netCDF classic format
-- specification, on the computation of variable offsets).
use Rattle.std.specs.Prelude.{◌≡◌, ℕ, ◌+◌, ◌-◌, ◌*◌, List, map, Bool, nat_lt, ◌==◌, ◌&&◌, if◌then◌else◌}
use Rattle.nc_write.specs.Extents.{lens_of, has_records, piece_len, piece_total, step_of}
use Rattle.nc_write.specs.declared.DocDim.{DocDim as NcDim}
use Rattle.nc_format.specs.declared.NcVar.{NcVar}
use Rattle.nc_format.specs.declared.NcFile.{NcFile}

-- a variable over the record dimension
abbrev pub is_record_var : List NcDim → NcVar → Bool
is_record_var dims v = has_records (lens_of dims) v.dims

-- the bytes of one piece of its values: of all of them, or of those of one record
abbrev pub var_piece_len : List NcDim → NcVar → ℕ
var_piece_len dims v = piece_len (lens_of dims) v.kind v.dims

-- the bytes from one record to the next
abbrev pub step_from : List NcDim → List NcVar → ℕ
step_from dims vars = step_of (is_record_var dims) (var_piece_len dims) vars

-- how many pieces the values stand in
abbrev pub parts_of : ℕ → List NcDim → NcVar → ℕ
parts_of records dims v = piece_total records (is_record_var dims v)

-- the bytes of a piece; 0 where there is none
abbrev pub part_of : ℕ → ℕ → ℕ
part_of parts len = if parts == 0 then 0 else len

-- from one piece to the next; 0 where there is none
abbrev pub own_step : ℕ → ℕ → ℕ
own_step parts step = if nat_lt 1 parts then step else 0

-- a variable with the places of its values
unfoldable pub placed : ℕ → List NcDim → ℕ → NcVar → NcVar
placed records dims step v = record v {
  parts = parts_of records dims v;
  part = part_of (parts_of records dims v) (var_piece_len dims v);
  step = own_step (parts_of records dims v) step;
}

-- the variables of a header with the places of their values
abbrev pub placed_vars : NcFile → List NcVar
placed_vars f = map (placed f.records f.dims (step_from f.dims f.vars)) f.vars

-- a header with the places of all values
abbrev pub with_places : NcFile → NcFile
with_places f = record f { vars = placed_vars f }

-- the places of a variable's values are those that its header tells
pub record IsPlaced (f : NcFile) (v : NcVar) : Type 0 where
  pub parts : v.parts ≡ parts_of f.records f.dims v
  pub part : v.part ≡ part_of v.parts (var_piece_len f.dims v)
  pub step : v.step ≡ own_step v.parts (step_from f.dims f.vars)

-- where the last piece ends
abbrev pub end_of : NcVar → ℕ
end_of v = v.begin + (v.parts - 1) * v.step + v.part

-- it has values, and the last one's last byte stands at the length or beyond
abbrev pub is_outside : ℕ → NcVar → Bool
is_outside len v = nat_lt 0 v.parts && nat_lt len (end_of v)
