-- The overlap in a file, by its header and all of its bytes, or its first fault. The whole form is our own.
use Rattle.std.specs.Prelude.{ℕ, ℤ, List, map, Result, Ok, Err}
use Rattle.clip.specs.Overlaps.{OverlapParts}
use Rattle.nc_format.specs.declared.NcFile.{NcFile}
use Rattle.exodus_mesh.specs.declared.ids.NameFault.{NameFault}
use Rattle.exodus_mesh.specs.MeshIn.{values_in}
use Rattle.remap_files.specs.declared.vars.OverlapVars.{OverlapVars}
use Rattle.exodus_mesh.specs.declared.faults.FileFault.{FileFault}
use Rattle.exodus_mesh.specs.declared.faults.FileFault.TheVariants.{Name}
use Rattle.remap_files.specs.OverlapNames.{overlap_vars_in}
use Rattle.remap_files.specs.OverlapRows.{overlap_of}

-- the numbers of some variables
abbrev pub lists_in : NcFile → List ℕ → List ℕ → List (List ℤ)
lists_in file bytes places = map (values_in file bytes) places

abbrev pub if_named : NcFile → List ℕ → Result OverlapVars NameFault → Result OverlapParts FileFault
if_named file bytes (Ok v) = overlap_of v (lists_in file bytes v.vars)
if_named file bytes (Err fault) = Err (Name fault)

-- The faults of names come before those of rows.
unfoldable pub overlap_in : NcFile → List ℕ → Result OverlapParts FileFault
overlap_in file bytes = if_named file bytes (overlap_vars_in file)
