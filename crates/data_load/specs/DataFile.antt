-- The variable of a name in a file of a folder, or why there is none. Source: the netCDF classic format, as the crates below define
-- it; which variables are taken, the limit on the length and the order of refusals are our own.
use Rattle.std.specs.Prelude.{◌≡◌, ◌≢◌, ℕ, List, length, Result, Ok, Err, ⊤}
use Rattle.remap_io.specs.Folder.{Folder}
use Rattle.nc_format.specs.declared.NcFile.{NcFile}
use Rattle.exodus_mesh.specs.declared.ids.NameFault.{NameFault}
use Rattle.exodus_mesh.specs.declared.ids.NameFault.TheVariants.{NoMemory}
use Rattle.exodus_mesh.specs.MeshIn.{values_in}
use Rattle.field_files.specs.declared.FieldData.{FieldData}
use Rattle.field_files.specs.declared.FieldFault.{FieldFault}
use Rattle.field_files.specs.declared.FieldFault.TheVariants.{Length}
use Rattle.field_files.specs.declared.FieldVar.{FieldVar}
use Rattle.field_files.specs.declared.NoFit.{NoFit}
use Rattle.field_files.specs.FileHeader.{IsFileHeader}
use Rattle.field_files.specs.FieldNames.{field_var, IsFieldPlace}
use Rattle.field_files.specs.FieldShapes.{field_over}
use Rattle.field_files.specs.FillValues.{fill_at}
use Rattle.remap_load.specs.declared.refusal.FileRefusal.{FileRefusal}
use Rattle.remap_load.specs.declared.refusal.FileRefusal.TheVariants.{Load, Content}
use Rattle.remap_load.specs.Pieces.{bytes_at, count_at}
use Rattle.remap_load.specs.Kinds.{FileKind, IsFile, IsRefusedFile, file_cost}
use Rattle.data_load.specs.declared.DataVar.{DataVar}

-- the variable at a place of a file with this header and these bytes
abbrev pub data_at : NcFile → List ℕ → ℕ → DataVar
data_at file bytes place = record { file = file; var = place; values = values_in file bytes place; fill = fill_at file place }

abbrev pub if_named : NcFile → List ℕ → Result ℕ NameFault → Result DataVar NameFault
if_named file bytes (Ok place) = Ok (data_at file bytes place)
if_named file bytes (Err fault) = Err fault

-- The variable of this name, or its first fault.
unfoldable pub data_in : NcFile → List ℕ → List ℕ → Result DataVar NameFault
data_in file bytes var = if_named file bytes (field_var file var)

-- a variable that was loaded, whatever is told of the folder: with a header of a file that isn't too long, a variable there that a
-- field is read from, and as many values as it has
pub record IsDataVar (found : DataVar) : Type 0 where
  pub header : IsFileHeader found.file
  pub place : IsFieldPlace found.file found.var
  pub count : length found.values ≡ count_at found.file found.var

-- laid over a map with n_a sources, it is a field or has no fit
abbrev pub laid : DataVar → Result FieldVar NoFit → Result FieldData FieldFault
laid found (Ok field) = Ok (record { field = field; values = found.values; fill = found.fill })
laid found (Err no_fit) = Err (Length no_fit.last_len)

abbrev pub laid_over : DataVar → ℕ → Result FieldData FieldFault
laid_over found n_a = laid found (field_over found.file found.var n_a)

-- a file of this header and these bytes has this variable
abbrev pub HoldsData : List ℕ → NcFile → List ℕ → DataVar → Type 0
HoldsData var file bytes found = data_in file bytes var ≡ Ok found

-- it has none, and this is its first fault
abbrev pub FailsData : List ℕ → NcFile → List ℕ → NameFault → Type 0
FailsData var file bytes fault = data_in file bytes var ≡ Err fault

-- a fault that is told; want of memory is none
abbrev pub IsDataFault : NameFault → Type 0
IsDataFault fault = fault ≢ NoMemory

-- the bytes of the variable
abbrev pub named_bytes : NcFile → Result ℕ NameFault → ℕ
named_bytes file (Ok place) = bytes_at file place
named_bytes file (Err fault) = 0

-- data files, by the name of the variable
abbrev pub data_kind : List ℕ → FileKind DataVar NameFault
data_kind var = record {
  Holds = HoldsData var;
  Fails = FailsData var;
  IsFault = IsDataFault;
  needed = λ file. named_bytes file (field_var file var);
}

-- The name holds this variable.
abbrev pub IsDataFile : Folder → List ℕ → List ℕ → DataVar → Type 0
IsDataFile m name var found = IsFile (data_kind var) m name found

-- The name holds no such variable, for this reason. It is never a failed read or want of memory.
abbrev pub IsRefusedData : Folder → List ℕ → List ℕ → FileRefusal NameFault → Type 0
IsRefusedData m name var refusal = IsRefusedFile (data_kind var) m name refusal

-- How many bytes are asked for: for the header, and for the variable.
abbrev pub data_cost : Folder → List ℕ → List ℕ → ℕ
data_cost m name var = file_cost (data_kind var) m name

-- the header alone has this fault: one of the variable
abbrev pub IsOfHead : FileRefusal NameFault → Type 0
IsOfHead (Load fault) = ⊥
IsOfHead (Content fault) = ⊤
