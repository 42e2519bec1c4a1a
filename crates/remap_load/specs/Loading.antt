-- Which faults a call answers, and what it leaves. Source: our own.
use Rattle.std.specs.Prelude.{◌≡◌, ◌≢◌, ◌⊎◌, ◌+◌, ◌<◌, ◌≤◌, ℕ, List, length, Some, None, Result, Err, IsOkAnd, ⊤}
use Rattle.vec_exact.specs.declared.limits.TheConstants.{MAX_FILE_LEN}
use Rattle.remap_io.specs.Causes.{Rose}
use Rattle.remap_io.specs.Folder.{OnFile, OnNoFile}
use Rattle.remap_io.specs.Outside.{FilesSeen, OnlyReads}
use Rattle.nc_format.specs.declared.fault.NcFault.TheVariants.{NoMemory as WantOfMemory}
use Rattle.nc_format.specs.declared.NcFile.{NcFile}
use Rattle.nc_format.specs.Header.{first_fault, IsSettled}
use Rattle.remap_load.specs.declared.Head.{Head}
use Rattle.remap_load.specs.declared.fault.LoadFault.{LoadFault}
use Rattle.remap_load.specs.declared.fault.LoadFault.TheVariants.{Absent, Failed, TooLong, Format, NoMemory}

-- a call only reads, and asks for at most so many bytes
pub record ReadsAtMost (old new : FilesSeen) (cost : ℕ) : Type 0 where
  pub reads : OnlyReads old new
  pub asked : new.taken ≤ old.taken + cost

-- Why the header of a name wasn't loaded. A miss or a failed read is counted. Where the folder is told, the name is lacking; or the
-- file has so many bytes, more than 2,147,483,647; or it has no more, and this is the first fault of its header.
abbrev pub IsLoadFault : FilesSeen → FilesSeen → List ℕ → LoadFault → Type 0
IsLoadFault old new name Absent = Rose old.misses new.misses × OnNoFile old.folder name
IsLoadFault old new name Failed = Rose old.faults new.faults
IsLoadFault old new name (TooLong n) = (MAX_FILE_LEN < n) × OnFile old.folder name (λ bytes. n ≡ length bytes)
IsLoadFault old new name (Format fault) =
    (fault ≢ WantOfMemory) × OnFile old.folder name (λ bytes. (length bytes ≤ MAX_FILE_LEN) × (first_fault bytes (length bytes) ≡ Some fault))
IsLoadFault old new name NoMemory = ⊤

-- Why values weren't loaded of a file whose header was: there is no miss where the folder is told.
abbrev pub IsReadFault : FilesSeen → FilesSeen → LoadFault → Type 0
IsReadFault old new Absent = Rose old.misses new.misses × (old.folder ≡ None)
IsReadFault old new Failed = Rose old.faults new.faults
IsReadFault old new (TooLong n) = ⊥
IsReadFault old new (Format fault) = ⊥
IsReadFault old new NoMemory = ⊤

-- the fault is answered, unless a read fails or memory runs out
abbrev pub Refuses : {A : Type 0} → LoadFault → Result A LoadFault → Type 0
Refuses fault answer = (answer ≡ Err fault) ⊎ ((answer ≡ Err Failed) ⊎ (answer ≡ Err NoMemory))

-- a head with this header is answered, unless a read fails or memory runs out
abbrev pub Finds : NcFile → Result Head LoadFault → Type 0
Finds file answer = IsOkAnd answer (λ head. head.file ≡ file) ⊎ ((answer ≡ Err Failed) ⊎ (answer ≡ Err NoMemory))

-- On the way there: the faults of looking for the header in the first bytes of a file of this length.
abbrev pub IsOfFront : List ℕ → ℕ → LoadFault → Type 0
IsOfFront front len Absent = ⊥
IsOfFront front len Failed = ⊥
IsOfFront front len (TooLong n) = ⊥
IsOfFront front len (Format fault) = (fault ≢ WantOfMemory) × (first_fault front len ≡ Some fault) × (length front < len → IsSettled (Some fault))
IsOfFront front len NoMemory = ⊤
