-- The numbers of the variables of a map, and the map that they say.
use Rattle.std.specs.Prelude.{◌≡◌, ℕ, List, length, Result}
use Rattle.map_rows.specs.Maps.{MapParts}
use Rattle.nc_format.specs.declared.NcFile.{NcFile}
use Rattle.exodus_mesh.specs.declared.faults.FileFault.{FileFault}
use Rattle.map_files.specs.declared.vars.MapVars.{MapVars}
use Rattle.map_files.specs.MapValues.{RowColumns, map_of}
use Rattle.map_files.specs.MapIn.{map_list_in}
use Rattle.map_load.specs.declared.values.MapNumbers.{MapNumbers}

-- those in a file with this header and these bytes
abbrev pub numbers_in : NcFile → List ℕ → MapVars → MapNumbers
numbers_in file bytes vars = record {
  col = map_list_in file bytes vars 0;
  row = map_list_in file bytes vars 1;
  s = map_list_in file bytes vars 2;
  area_a = map_list_in file bytes vars 3;
  area_b = map_list_in file bytes vars 4;
}

-- the columns of the rows
abbrev pub columns_of : MapNumbers → RowColumns
columns_of n = record { col = n.col; row = n.row; s = n.s }

-- the map that they say, or the first fault of rows and areas
abbrev pub map_of_numbers : MapVars → MapNumbers → Result MapParts FileFault
map_of_numbers vars n = map_of vars (columns_of n) n.area_a n.area_b

-- they are as many as the counts say
pub record AreAsLong (vars : MapVars) (n : MapNumbers) : Type 0 where
  pub col : length n.col ≡ vars.n_s
  pub row : length n.row ≡ vars.n_s
  pub s : length n.s ≡ vars.n_s
  pub area_a : length n.area_a ≡ vars.n_a
  pub area_b : length n.area_b ≡ vars.n_b
