-- The map in a file of a folder, or why there is none. Source: the netCDF classic format, as the crates below define it; the form
-- of a map file, the limit on the length and the order of refusals are our own.
use Rattle.std.specs.Prelude.{◌≡◌, ◌≢◌, ℕ, List, Result, Ok, Err, ⊤}
use Rattle.std.specs.List.{sum_by}
use Rattle.map_rows.specs.Maps.{MapParts}
use Rattle.remap_io.specs.Folder.{Folder}
use Rattle.nc_format.specs.declared.NcFile.{NcFile}
use Rattle.exodus_mesh.specs.declared.ids.NameFault.{NameFault}
use Rattle.exodus_mesh.specs.declared.ids.NameFault.TheVariants as of_names
use Rattle.exodus_mesh.specs.declared.faults.FileFault.{FileFault}
use Rattle.exodus_mesh.specs.declared.faults.FileFault.TheVariants.{Name, Row, AreaA, AreaB, NoMemory}
use Rattle.map_files.specs.declared.vars.MapVars.{MapVars}
use Rattle.map_files.specs.MapNames.{map_vars_in}
use Rattle.map_files.specs.MapIn.{map_in}
use Rattle.remap_load.specs.declared.refusal.FileRefusal.{FileRefusal}
use Rattle.remap_load.specs.declared.refusal.FileRefusal.TheVariants.{Load, Content}
use Rattle.remap_load.specs.Pieces.{bytes_at}
use Rattle.remap_load.specs.Kinds.{FileKind, IsFile, IsRefusedFile, file_cost}

-- a file of this header and these bytes has this map
abbrev pub HoldsMap : NcFile → List ℕ → MapParts → Type 0
HoldsMap file bytes m = map_in file bytes ≡ Ok m

-- it has none, and this is its first fault
abbrev pub FailsMap : NcFile → List ℕ → FileFault → Type 0
FailsMap file bytes fault = map_in file bytes ≡ Err fault

-- the faults of a map file: one of names, of rows or of areas; want of memory is none
abbrev pub IsMapFault : FileFault → Type 0
IsMapFault (Name fault) = fault ≢ of_names.NoMemory
IsMapFault (Row r) = ⊤
IsMapFault (AreaA i) = ⊤
IsMapFault (AreaB j) = ⊤
IsMapFault NoMemory = ⊥

-- the bytes of the five variables that the map needs
abbrev pub map_bytes : NcFile → MapVars → ℕ
map_bytes file vars = sum_by (bytes_at file) vars.vars

abbrev pub named_bytes : NcFile → Result MapVars NameFault → ℕ
named_bytes file (Ok vars) = map_bytes file vars
named_bytes file (Err fault) = 0

-- map files
abbrev pub map_kind : FileKind MapParts FileFault
map_kind = record {
  Holds = HoldsMap;
  Fails = FailsMap;
  IsFault = IsMapFault;
  needed = λ file. named_bytes file (map_vars_in file);
}

-- The name holds this map.
abbrev pub IsMapFile : Folder → List ℕ → MapParts → Type 0
IsMapFile m name content = IsFile map_kind m name content

-- The name holds no map, for this reason. It is never a failed read or want of memory.
abbrev pub IsRefusedMap : Folder → List ℕ → FileRefusal FileFault → Type 0
IsRefusedMap m name refusal = IsRefusedFile map_kind m name refusal

-- How many bytes are asked for: for the header, and for the variables that the map needs.
abbrev pub map_cost : Folder → List ℕ → ℕ
map_cost m name = file_cost map_kind m name

-- the header alone has this fault: one of names
abbrev pub IsOfHead : FileRefusal FileFault → Type 0
IsOfHead (Load fault) = ⊥
IsOfHead (Content (Name fault)) = ⊤
IsOfHead (Content (Row r)) = ⊥
IsOfHead (Content (AreaA i)) = ⊥
IsOfHead (Content (AreaB j)) = ⊥
IsOfHead (Content NoMemory) = ⊥
