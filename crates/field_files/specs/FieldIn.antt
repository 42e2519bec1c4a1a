-- The field in a file, by its header and all of its bytes, for a map with n_a sources, or the first fault. Our own.
use Rattle.std.specs.Prelude.{ℕ, List, Result, Ok, Err}
use Rattle.nc_format.specs.declared.NcFile.{NcFile}
use Rattle.exodus_mesh.specs.declared.ids.NameFault.{NameFault}
use Rattle.exodus_mesh.specs.MeshIn.{values_in}
use Rattle.field_files.specs.declared.FieldVar.{FieldVar}
use Rattle.field_files.specs.declared.NoFit.{NoFit}
use Rattle.field_files.specs.declared.FieldData.{FieldData}
use Rattle.field_files.specs.declared.FieldFault.{FieldFault}
use Rattle.field_files.specs.declared.FieldFault.TheVariants.{Name, Length}
use Rattle.field_files.specs.FieldNames.{field_var}
use Rattle.field_files.specs.FieldShapes.{field_over}
use Rattle.field_files.specs.FillValues.{fill_at}

-- the values of a variable, in row-major order, and its fill value
abbrev pub field_at : NcFile → List ℕ → ℕ → FieldVar → FieldData
field_at file bytes place field =
    record { field = field; values = values_in file bytes place; fill = fill_at file place }

abbrev pub if_fitting : NcFile → List ℕ → ℕ → Result FieldVar NoFit → Result FieldData FieldFault
if_fitting file bytes place (Ok field) = Ok (field_at file bytes place field)
if_fitting file bytes place (Err no_fit) = Err (Length no_fit.last_len)

abbrev pub if_named : NcFile → List ℕ → ℕ → Result ℕ NameFault → Result FieldData FieldFault
if_named file bytes n_a (Ok place) = if_fitting file bytes place (field_over file place n_a)
if_named file bytes n_a (Err fault) = Err (Name fault)

-- The faults of names come before that of the length.
unfoldable pub field_in : NcFile → List ℕ → List ℕ → ℕ → Result FieldData FieldFault
field_in file bytes name n_a = if_named file bytes n_a (field_var file name)
