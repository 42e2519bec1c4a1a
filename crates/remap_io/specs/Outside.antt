-- What files and sinks show of themselves, and what a call may answer and leave. Source: our own.
use Rattle.std.specs.Prelude.{◌≡◌, ℕ, List, Option, ⊤}
use Rattle.remap_io.specs.Causes.{Rose, IsLater}
use Rattle.remap_io.specs.Folder.{Folder, OnNoFile}
use Rattle.remap_io.specs.declared.files.FileErr.{FileErr}
use Rattle.remap_io.specs.declared.files.FileErr.TheVariants as read
use Rattle.remap_io.specs.declared.files.PutErr.{PutErr}
use Rattle.remap_io.specs.declared.files.PutErr.TheVariants as put

-- Files: the folder, where it is told, and how many reads failed, how many replacements failed, how many names weren't found,
-- and how many bytes `read_at` was asked for.
pub record FilesSeen : Type 0 where
  pub folder : Option Folder
  pub faults : ℕ
  pub write_faults : ℕ
  pub misses : ℕ
  pub taken : ℕ

-- A sink: the bytes that it holds, where they are told, how many puts failed, and how many found no memory.
pub record SinkSeen : Type 0 where
  pub contents : Option (List ℕ)
  pub faults : ℕ
  pub refusals : ℕ

-- no count of the files falls, and one that stands at its last value stays there
pub record NoCountFalls (old new : FilesSeen) : Type 0 where
  pub faults : IsLater old.faults new.faults
  pub write_faults : IsLater old.write_faults new.write_faults
  pub misses : IsLater old.misses new.misses
  pub taken : IsLater old.taken new.taken

-- a call only reads: no file changes, what isn't told stays untold, and no count falls
pub record OnlyReads (old new : FilesSeen) : Type 0 where
  pub same_folder : new.folder ≡ old.folder
  pub counts : NoCountFalls old new

-- why nothing was read of a name: the name isn't there, and a miss is counted; a fault is counted; or memory ran out
abbrev pub IsReadRefusal : FilesSeen → FilesSeen → List ℕ → FileErr → Type 0
IsReadRefusal old new name read.Absent = Rose old.misses new.misses × OnNoFile old.folder name
IsReadRefusal old new name read.Failed = Rose old.faults new.faults
IsReadRefusal old new name read.NoMemory = ⊤

-- why a file wasn't replaced: a fault is counted, or memory ran out
abbrev pub IsWriteRefusal : FilesSeen → FilesSeen → PutErr → Type 0
IsWriteRefusal old new put.Failed = Rose old.write_faults new.write_faults
IsWriteRefusal old new put.NoMemory = ⊤

-- why bytes weren't put to a sink: a fault is counted, or a put that found no memory is
abbrev pub IsPutRefusal : SinkSeen → SinkSeen → PutErr → Type 0
IsPutRefusal old new put.Failed = Rose old.faults new.faults
IsPutRefusal old new put.NoMemory = Rose old.refusals new.refusals

-- no count of a sink falls
pub record NoPutCountFalls (old new : SinkSeen) : Type 0 where
  pub faults : IsLater old.faults new.faults
  pub refusals : IsLater old.refusals new.refusals
