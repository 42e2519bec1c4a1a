-- A variable of one dimension, with so many numbers: written, and found by its name. The whole form is our own.
use Rattle.std.specs.Prelude.{ℕ, List, Result, Ok}
use Rattle.nc_write.specs.declared.DocVar.{DocVar}
use Rattle.nc_write.specs.declared.Values.{Values}
use Rattle.nc_format.specs.declared.NcFile.{NcFile}
use Rattle.exodus_mesh.specs.declared.kinds.NumberKind.{NumberKind}
use Rattle.exodus_mesh.specs.declared.ids.NameId.{NameId}
use Rattle.exodus_mesh.specs.declared.ids.NameFault.{NameFault}
use Rattle.exodus_mesh.specs.declared.ids.NameFault.TheVariants.{Missing}
use Rattle.exodus_mesh.specs.Names.{◌>>=◌, found_or}
use Rattle.exodus_mesh.specs.VarLens.{same_len, var_len}
use Rattle.exodus_mesh.specs.MeshNames.{place_of}

abbrev pub variable_of : List ℕ → List ℕ → Values → DocVar
variable_of name dims values = record { name = name; dims = dims; values = values }

-- its place, or the first fault
unfoldable pub column_in : NcFile → NumberKind → ℕ → NameId → Result ℕ NameFault
column_in file kind count id = do
  place ← found_or (Missing id) (place_of file id)
  len ← var_len file kind id place
  same ← same_len id count len
  Ok place
