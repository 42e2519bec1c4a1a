-- What a file of some kind holds, or why it holds none. A kind of file is given by what its header and its bytes hold and by the
-- first fault that they have otherwise. Source: our own; the order of refusals is that of the command line.
use Rattle.std.specs.Prelude.{◌≡◌, ◌≢◌, ◌⊎◌, ◌<◌, ◌≤◌, ◌+◌, ℕ, List, length, Option, Some, None, Result, Ok, Err, IsSomeAnd, ⊤}
use Rattle.vec_exact.specs.declared.limits.TheConstants.{MAX_FILE_LEN}
use Rattle.remap_io.specs.Folder.{Folder, file_at, OnFile}
use Rattle.remap_io.specs.Outside.{FilesSeen}
use Rattle.nc_format.specs.declared.NcFile.{NcFile}
use Rattle.nc_format.specs.declared.fault.NcFault.{NcFault}
use Rattle.nc_format.specs.declared.fault.NcFault.TheVariants.{NoMemory as WantOfMemory}
use Rattle.nc_format.specs.Placing.{with_places}
use Rattle.nc_format.specs.Header.{IsHeader, first_fault, header_read}
use Rattle.remap_load.specs.declared.fault.LoadFault.TheVariants.{Absent, Failed, TooLong, Format, NoMemory}
use Rattle.remap_load.specs.declared.refusal.FileRefusal.{FileRefusal}
use Rattle.remap_load.specs.declared.refusal.FileRefusal.TheVariants.{Load, Content}
use Rattle.remap_load.specs.Heads.{header_cost}
use Rattle.remap_load.specs.Loading.{IsLoadFault}

-- a kind of file, which holds an `A` or has a fault `C`
pub record FileKind (A C : Type 0) : Type 1 where
  -- a file of this header and these bytes holds this
  pub Holds : NcFile → List ℕ → A → Type 0
  -- it holds none, and this is its first fault
  pub Fails : NcFile → List ℕ → C → Type 0
  -- a fault that is told: it isn't want of memory
  pub IsFault : C → Type 0
  -- how many bytes the variables have that are needed, by the header
  pub needed : NcFile → ℕ

-- bytes of a file that isn't too long, with their header
pub record IsNetcdf (bytes : List ℕ) (file : NcFile) : Type 0 where
  pub short : length bytes ≤ MAX_FILE_LEN
  pub header : IsHeader bytes (length bytes) file

-- the bytes hold this
pub record HasContent {A C : Type 0} (kind : FileKind A C) (bytes : List ℕ) (content : A) : Type 0 where
  pub file : NcFile
  pub netcdf : IsNetcdf bytes file
  pub holds : kind.Holds file bytes content

-- the bytes have a good header, and this fault
pub record HasFault {A C : Type 0} (kind : FileKind A C) (bytes : List ℕ) (fault : C) : Type 0 where
  pub file : NcFile
  pub netcdf : IsNetcdf bytes file
  pub fails : kind.Fails file bytes fault

-- why bytes hold nothing of the kind: the first of these that stands
abbrev pub IsRefusedBytes : {A C : Type 0} → FileKind A C → List ℕ → FileRefusal C → Type 0
IsRefusedBytes kind bytes (Load Absent) = ⊥
IsRefusedBytes kind bytes (Load Failed) = ⊥
IsRefusedBytes kind bytes (Load (TooLong n)) = (n ≡ length bytes) × (MAX_FILE_LEN < n)
IsRefusedBytes kind bytes (Load (Format fault)) = (length bytes ≤ MAX_FILE_LEN) × (first_fault bytes (length bytes) ≡ Some fault)
IsRefusedBytes kind bytes (Load NoMemory) = ⊥
IsRefusedBytes kind bytes (Content fault) = HasFault kind bytes fault

abbrev pub IsRefusedName : {A C : Type 0} → FileKind A C → Option (List ℕ) → FileRefusal C → Type 0
IsRefusedName kind None refusal = refusal ≡ Load Absent
IsRefusedName kind (Some bytes) refusal = IsRefusedBytes kind bytes refusal

-- The name holds this in the folder.
abbrev pub IsFile : {A C : Type 0} → FileKind A C → Folder → List ℕ → A → Type 0
IsFile kind m name content = IsSomeAnd (file_at m name) (λ bytes. HasContent kind bytes content)

-- The name holds nothing of the kind, for this reason. It is never a failed read or want of memory.
abbrev pub IsRefusedFile : {A C : Type 0} → FileKind A C → Folder → List ℕ → FileRefusal C → Type 0
IsRefusedFile kind m name refusal = IsRefusedName kind (file_at m name) refusal

-- What a refusal says that was answered: a miss or a failed read is counted; anything else stands in the file, where the folder
-- is told, and is told by its words.
abbrev pub IsFileRefusal : {A C : Type 0} → FileKind A C → FilesSeen → FilesSeen → List ℕ → FileRefusal C → Type 0
IsFileRefusal kind old new name (Load fault) = IsLoadFault old new name fault
IsFileRefusal kind old new name (Content fault) = kind.IsFault fault × OnFile old.folder name (λ bytes. HasFault kind bytes fault)

-- a read failed, or memory ran out
abbrev pub IsCutOff : {A C : Type 0} → Result A (FileRefusal C) → Type 0
IsCutOff answer = (answer ≡ Err (Load Failed)) ⊎ (answer ≡ Err (Load NoMemory))

-- How many bytes are asked for, where so many are needed besides the header.

abbrev pub read_cost : (NcFile → ℕ) → Result (NcFile × ℕ) NcFault → ℕ
read_cost needed (Ok x) = header_cost x.1 + needed (with_places x.0)
read_cost needed (Err fault) = 0

abbrev pub bytes_cost : (NcFile → ℕ) → Option (List ℕ) → ℕ
bytes_cost needed None = 0
bytes_cost needed (Some bytes) = read_cost needed (header_read bytes)

-- For the header of a name: 65,536 bytes or twice the header.
unfoldable pub head_cost : Folder → List ℕ → ℕ
head_cost m name = bytes_cost (λ file. 0) (file_at m name)

-- For what a name holds: the same, and the bytes of the variables that are needed.
unfoldable pub file_cost : {A C : Type 0} → FileKind A C → Folder → List ℕ → ℕ
file_cost kind m name = bytes_cost kind.needed (file_at m name)

-- What can be told of a refusal, also where the folder isn't told: a file that is too long has more than 2,147,483,647 bytes, and
-- a fault of the header or of what the file holds isn't want of memory.
abbrev pub IsToldRefusal : {A C : Type 0} → FileKind A C → FileRefusal C → Type 0
IsToldRefusal kind (Load Absent) = ⊤
IsToldRefusal kind (Load Failed) = ⊤
IsToldRefusal kind (Load (TooLong n)) = MAX_FILE_LEN < n
IsToldRefusal kind (Load (Format fault)) = fault ≢ WantOfMemory
IsToldRefusal kind (Load NoMemory) = ⊤
IsToldRefusal kind (Content fault) = kind.IsFault fault
