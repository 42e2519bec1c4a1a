use Rattle.std.proofs.Common.{◌≡◌, map, drop}
use Rattle.std.specs.Ordering.{nat_cmp}
use Rattle.std.specs.Cmp.Lexicographic.{slice_cmp}
use Rattle.std.specs.FinMap.{find}
use Rattle.remap_io.specs.Folder.{file_at}
use Rattle.remap_io.specs.Store.{entry_of, folder_of}
use Rattle.remap_io.proofs.store.bytes_of.Given as goal

abbrev pub invariant-loop-file : goal.invariant-loop-file
invariant-loop-file l = find (slice_cmp nat_cmp) l.name (map entry_of (drop l.file-index l.files)) ≡ file_at (folder_of l.files) l.name
