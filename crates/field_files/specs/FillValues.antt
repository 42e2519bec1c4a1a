-- The fill value of a variable. Source: the attribute _FillValue of the netCDF conventions.
use Rattle.std.specs.Prelude.{ℕ, ℤ, Option, Some, None, ◌==◌, if◌then◌else◌, slice_get, codes}
use Rattle.nc_write.specs.declared.NcKind.{NcKind}
use Rattle.nc_write.specs.Kinds.{type_number}
use Rattle.nc_format.specs.declared.NcAtt.{NcAtt}
use Rattle.nc_format.specs.declared.NcVar.{NcVar}
use Rattle.nc_format.specs.declared.NcFile.{NcFile}
use Rattle.nc_format.specs.Numbers.{att_named, one_int}

-- the value of an attribute that has this type and one value
abbrev pub one_of : NcKind → Option NcAtt → Option ℤ
one_of kind None = None
one_of kind (Some a) = if type_number a.kind == type_number kind then one_int a else None

-- the first attribute of the name decides
abbrev pub fill_of : Option NcVar → Option ℤ
fill_of None = None
fill_of (Some v) = one_of v.kind (att_named v.atts (codes "_FillValue"))

-- that of the variable at a place
abbrev pub fill_at : NcFile → ℕ → Option ℤ
fill_at file place = fill_of (slice_get file.vars place)
