-- Refusals by the faults that they come from, and which of them the parts of a call answer. No public contract cites this file.
use Rattle.std.specs.Prelude.{◌≡◌, ℕ, List, Err, ⊤}
use Rattle.nc_format.specs.declared.NcFile.{NcFile}
use Rattle.exodus_mesh.specs.declared.ids.NameFault.{NameFault}
use Rattle.exodus_mesh.specs.declared.ids.NameFault.TheVariants as of_names
use Rattle.field_files.specs.FieldNames.{field_var}
use Rattle.remap_load.specs.declared.fault.LoadFault.TheVariants as load
use Rattle.remap_load.specs.declared.refusal.FileRefusal.{FileRefusal}
use Rattle.remap_load.specs.declared.refusal.FileRefusal.TheVariants.{Load, Content}
use Rattle.data_load.specs.DataFile.{IsDataFault}

-- the refusal of a fault of names; want of memory stays want of memory
abbrev pub refusal_of_names : NameFault → FileRefusal NameFault
refusal_of_names of_names.NoMemory = Load load.NoMemory
refusal_of_names fault = Content fault

-- the fault of the variable that a header has
abbrev pub HasNameFault : NcFile → List ℕ → NameFault → Type 0
HasNameFault file var fault = field_var file var ≡ Err fault

-- it is want of memory, or a fault of which this holds
abbrev pub IsOwn : (NameFault → Type 0) → FileRefusal NameFault → Type 0
IsOwn P (Load load.NoMemory) = ⊤
IsOwn P (Load fault) = ⊥
IsOwn P (Content fault) = IsDataFault fault × P fault
