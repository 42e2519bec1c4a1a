-- Refusals by the faults that they come from, and which of them the parts of a call answer. No public contract cites this file.
use Rattle.std.specs.Prelude.{◌≡◌, ℤ, List, Err, ⊤}
use Rattle.nc_format.specs.declared.NcFile.{NcFile}
use Rattle.exodus_mesh.specs.declared.ids.NameFault.{NameFault}
use Rattle.exodus_mesh.specs.declared.ids.NameFault.TheVariants as of_names
use Rattle.exodus_mesh.specs.declared.faults.FileFault.{FileFault}
use Rattle.exodus_mesh.specs.declared.faults.FileFault.TheVariants.{Name, Row, AreaA, AreaB, NoMemory}
use Rattle.remap_files.specs.declared.vars.OverlapVars.{OverlapVars}
use Rattle.remap_files.specs.OverlapNames.{overlap_vars_in}
use Rattle.remap_files.specs.OverlapRows.{overlap_of}
use Rattle.remap_load.specs.declared.fault.LoadFault.TheVariants as load
use Rattle.remap_load.specs.declared.refusal.FileRefusal.{FileRefusal}
use Rattle.remap_load.specs.declared.refusal.FileRefusal.TheVariants.{Load, Content}
use Rattle.overlap_load.specs.OverlapFile.{IsOverlapFault}

-- the refusal of a fault of names, or of rows; want of memory stays want of memory
abbrev pub refusal_of_names : NameFault → FileRefusal FileFault
refusal_of_names of_names.NoMemory = Load load.NoMemory
refusal_of_names fault = Content (Name fault)

abbrev pub refusal_of_rows : FileFault → FileRefusal FileFault
refusal_of_rows NoMemory = Load load.NoMemory
refusal_of_rows fault = Content fault

-- the fault that a header alone has
abbrev pub HasHeadFault : NcFile → FileFault → Type 0
HasHeadFault file (Name fault) = overlap_vars_in file ≡ Err fault
HasHeadFault file (Row r) = ⊥
HasHeadFault file (AreaA i) = ⊥
HasHeadFault file (AreaB j) = ⊥
HasHeadFault file NoMemory = ⊥

-- that of the numbers of the variables: the first row at fault
abbrev pub HasRowFault : OverlapVars → List (List ℤ) → FileFault → Type 0
HasRowFault vars values (Name fault) = ⊥
HasRowFault vars values (Row r) = overlap_of vars values ≡ Err (Row r)
HasRowFault vars values (AreaA i) = ⊥
HasRowFault vars values (AreaB j) = ⊥
HasRowFault vars values NoMemory = ⊥

-- it is want of memory, or a fault of which this holds
abbrev pub IsOwn : (FileFault → Type 0) → FileRefusal FileFault → Type 0
IsOwn P (Load load.NoMemory) = ⊤
IsOwn P (Load fault) = ⊥
IsOwn P (Content fault) = IsOverlapFault fault × P fault
