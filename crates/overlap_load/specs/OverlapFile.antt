-- The overlap in a file of a folder, or why there is none. Source: the netCDF classic format, as the crates below define it; the
-- form of an overlap file, the limit on the length and the order of refusals are our own.
use Rattle.std.specs.Prelude.{◌≡◌, ◌≢◌, ℕ, List, Result, Ok, Err, ⊤}
use Rattle.std.specs.List.{sum_by}
use Rattle.clip.specs.Overlaps.{OverlapParts}
use Rattle.remap_io.specs.Folder.{Folder}
use Rattle.nc_format.specs.declared.NcFile.{NcFile}
use Rattle.exodus_mesh.specs.declared.ids.NameFault.{NameFault}
use Rattle.exodus_mesh.specs.declared.ids.NameFault.TheVariants as of_names
use Rattle.exodus_mesh.specs.declared.faults.FileFault.{FileFault}
use Rattle.exodus_mesh.specs.declared.faults.FileFault.TheVariants.{Name, Row, AreaA, AreaB, NoMemory}
use Rattle.remap_files.specs.declared.vars.OverlapVars.{OverlapVars}
use Rattle.remap_files.specs.OverlapNames.{overlap_vars_in}
use Rattle.remap_files.specs.OverlapIn.{overlap_in}
use Rattle.remap_load.specs.declared.refusal.FileRefusal.{FileRefusal}
use Rattle.remap_load.specs.declared.refusal.FileRefusal.TheVariants.{Load, Content}
use Rattle.remap_load.specs.Pieces.{bytes_at}
use Rattle.remap_load.specs.Kinds.{FileKind, IsFile, IsRefusedFile, file_cost}

-- a file of this header and these bytes has this overlap
abbrev pub HoldsOverlap : NcFile → List ℕ → OverlapParts → Type 0
HoldsOverlap file bytes overlap = overlap_in file bytes ≡ Ok overlap

-- it has none, and this is its first fault
abbrev pub FailsOverlap : NcFile → List ℕ → FileFault → Type 0
FailsOverlap file bytes fault = overlap_in file bytes ≡ Err fault

-- the faults of an overlap file: one of names or one of rows; want of memory is none
abbrev pub IsOverlapFault : FileFault → Type 0
IsOverlapFault (Name fault) = fault ≢ of_names.NoMemory
IsOverlapFault (Row r) = ⊤
IsOverlapFault (AreaA i) = ⊥
IsOverlapFault (AreaB j) = ⊥
IsOverlapFault NoMemory = ⊥

-- the bytes of all variables that the overlap needs: five, or none without a piece
abbrev pub overlap_bytes : NcFile → OverlapVars → ℕ
overlap_bytes file vars = sum_by (bytes_at file) vars.vars

abbrev pub named_bytes : NcFile → Result OverlapVars NameFault → ℕ
named_bytes file (Ok vars) = overlap_bytes file vars
named_bytes file (Err fault) = 0

-- overlap files
abbrev pub overlap_kind : FileKind OverlapParts FileFault
overlap_kind = record {
  Holds = HoldsOverlap;
  Fails = FailsOverlap;
  IsFault = IsOverlapFault;
  needed = λ file. named_bytes file (overlap_vars_in file);
}

-- The name holds this overlap.
abbrev pub IsOverlapFile : Folder → List ℕ → OverlapParts → Type 0
IsOverlapFile m name overlap = IsFile overlap_kind m name overlap

-- The name holds no overlap, for this reason. It is never a failed read or want of memory.
abbrev pub IsRefusedOverlap : Folder → List ℕ → FileRefusal FileFault → Type 0
IsRefusedOverlap m name refusal = IsRefusedFile overlap_kind m name refusal

-- How many bytes are asked for: for the header, and for the variables that the overlap needs.
abbrev pub overlap_cost : Folder → List ℕ → ℕ
overlap_cost m name = file_cost overlap_kind m name

-- the header alone has this fault: one of names
abbrev pub IsOfHead : FileRefusal FileFault → Type 0
IsOfHead (Load fault) = ⊥
IsOfHead (Content (Name fault)) = ⊤
IsOfHead (Content (Row r)) = ⊥
IsOfHead (Content (AreaA i)) = ⊥
IsOfHead (Content (AreaB j)) = ⊥
IsOfHead (Content NoMemory) = ⊥
