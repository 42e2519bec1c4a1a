-- A list of files as a folder.
use Rattle.std.specs.Prelude.{ℕ, List, map, string_bytes}
use Rattle.std.specs.FinMap.{from_entries}
use Rattle.remap_io.specs.Folder.{Folder}
use Rattle.remap_io.specs.declared.store.MemFile.{MemFile}

-- a file's name and bytes
abbrev pub entry_of : MemFile → List ℕ × List ℕ
entry_of file = (string_bytes file.name, file.bytes.items)

-- the folder of these files
abbrev pub folder_of : List MemFile → Folder
folder_of files = from_entries (map entry_of files)
