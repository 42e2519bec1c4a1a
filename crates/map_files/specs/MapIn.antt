-- The map in a file, by its header and all of its bytes, or its first fault. The whole form is our own.
use Rattle.std.specs.Prelude.{ℕ, ℤ, List, slice_index, Result, Ok, Err}
use Rattle.map_rows.specs.Maps.{MapParts}
use Rattle.nc_format.specs.declared.NcFile.{NcFile}
use Rattle.exodus_mesh.specs.declared.ids.NameFault.{NameFault}
use Rattle.exodus_mesh.specs.MeshIn.{values_in}
use Rattle.map_files.specs.declared.vars.MapVars.{MapVars}
use Rattle.exodus_mesh.specs.declared.faults.FileFault.{FileFault}
use Rattle.exodus_mesh.specs.declared.faults.FileFault.TheVariants.{Name}
use Rattle.map_files.specs.MapNames.{map_vars_in}
use Rattle.map_files.specs.MapValues.{RowColumns, map_of}

-- the numbers of variable k of a map, from 0
abbrev pub map_list_in : NcFile → List ℕ → MapVars → ℕ → List ℤ
map_list_in file bytes v k = values_in file bytes (slice_index v.vars k)

abbrev pub row_columns_in : NcFile → List ℕ → MapVars → RowColumns
row_columns_in file bytes v = record {
  col = map_list_in file bytes v 0;
  row = map_list_in file bytes v 1;
  s = map_list_in file bytes v 2;
}

abbrev pub if_map_named : NcFile → List ℕ → Result MapVars NameFault → Result MapParts FileFault
if_map_named file bytes (Ok v) = map_of v (row_columns_in file bytes v) (map_list_in file bytes v 3) (map_list_in file bytes v 4)
if_map_named file bytes (Err fault) = Err (Name fault)

-- The faults of names come before those of rows and areas.
unfoldable pub map_in : NcFile → List ℕ → Result MapParts FileFault
map_in file bytes = if_map_named file bytes (map_vars_in file)
