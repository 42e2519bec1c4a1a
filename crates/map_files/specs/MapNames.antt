-- The counts and the variables of a map in a file, or the first fault of names, in the order in which names and shapes
-- are tested. The whole form is our own.
use Rattle.std.specs.Prelude.{ℕ, [], ◌∷◌, Result, Ok, Err, nat_le, if◌then◌else◌}
use Rattle.vec_exact.specs.declared.limits.TheConstants.{MAX_PIECES, MAX_FACES}
use Rattle.nc_format.specs.declared.NcFile.{NcFile}
use Rattle.exodus_mesh.specs.declared.kinds.NumberKind.{NumberKind}
use Rattle.exodus_mesh.specs.declared.kinds.NumberKind.TheVariants.{Int, Long}
use Rattle.exodus_mesh.specs.declared.ids.NameId.{NameId}
use Rattle.exodus_mesh.specs.declared.ids.NameId.TheVariants.{Col, Row, S, AreaA, AreaB}
use Rattle.exodus_mesh.specs.declared.ids.NameFault.{NameFault}
use Rattle.exodus_mesh.specs.declared.ids.NameFault.TheVariants.{Missing, Shape}
use Rattle.exodus_mesh.specs.Names.{◌>>=◌, found_or}
use Rattle.exodus_mesh.specs.VarLens.{var_len}
use Rattle.exodus_mesh.specs.MeshNames.{place_of}
use Rattle.map_files.specs.declared.vars.MapVars.{MapVars}
use Rattle.exodus_mesh.specs.Columns.{column_in}

-- the place and the length of a variable of one dimension, which has at most so many numbers
unfoldable pub list_in : NcFile → NumberKind → ℕ → NameId → Result (ℕ × ℕ) NameFault
list_in file kind most id = do
  place ← found_or (Missing id) (place_of file id)
  len ← var_len file kind id place
  if nat_le len most then Ok (place, len) else Err (Shape id)

-- The counts and the variables of a map, or the first fault of names: `row` and `S` are as long as `col`.
unfoldable pub map_vars_in : NcFile → Result MapVars NameFault
map_vars_in file = do
  col ← list_in file Int MAX_PIECES Col
  row ← column_in file Int col.1 Row
  s ← column_in file Long col.1 S
  area_a ← list_in file Long MAX_FACES AreaA
  area_b ← list_in file Long MAX_FACES AreaB
  Ok (record { n_a = area_a.1; n_b = area_b.1; n_s = col.1; vars = col.0 ∷ row ∷ s ∷ area_a.0 ∷ area_b.0 ∷ [] })
