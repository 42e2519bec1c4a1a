-- Files and sinks in memory, as callers see them.
use Rattle.std.specs.Prelude.{ℕ, List, Some, ◌++◌, take, Contains}
use Rattle.remap_io.specs.Causes.{held_sum}
use Rattle.remap_io.specs.Folder.{Folder, with_file}
use Rattle.remap_io.specs.Outside.{FilesSeen, SinkSeen}
use Rattle.remap_io.specs.declared.mem_files.Torn.{Torn}
use Rattle.remap_io.specs.declared.mem_files.Torn.TheVariants.{Old, First}

-- A `MemFiles`: its folder, the numbers of the calls that are to fail, how many calls there were,
-- what a failing replacement leaves, and the counts.
pub record FilesState : Type 0 where
  pub folder : Folder
  pub fail : List ℕ
  pub calls : ℕ
  pub torn : Torn
  pub faults : ℕ
  pub write_faults : ℕ
  pub misses : ℕ
  pub taken : ℕ

-- a `SteadyFiles`: its folder, and the counts that it has
pub record SteadyFilesState : Type 0 where
  pub folder : Folder
  pub misses : ℕ
  pub taken : ℕ

-- A `MemSink`: its bytes, the numbers of the calls that are to fail, how many calls there were,
-- how many bytes a failing call appends at most, and the counts.
pub record SinkState : Type 0 where
  pub bytes : List ℕ
  pub fail : List ℕ
  pub calls : ℕ
  pub torn : ℕ
  pub faults : ℕ
  pub refusals : ℕ

-- a `SteadySink`: its bytes, and how often a put found no memory
pub record SteadySinkState : Type 0 where
  pub bytes : List ℕ
  pub refusals : ℕ

-- what each of them shows
abbrev pub seen_of_files : FilesState → FilesSeen
seen_of_files s = record { folder = Some s.folder; faults = s.faults; write_faults = s.write_faults; misses = s.misses; taken = s.taken }

abbrev pub seen_of_steady_files : SteadyFilesState → FilesSeen
seen_of_steady_files s = record { folder = Some s.folder; faults = 0; write_faults = 0; misses = s.misses; taken = s.taken }

abbrev pub seen_of_sink : SinkState → SinkSeen
seen_of_sink s = record { contents = Some s.bytes; faults = s.faults; refusals = s.refusals }

abbrev pub seen_of_steady_sink : SteadySinkState → SinkSeen
seen_of_steady_sink s = record { contents = Some s.bytes; faults = 0; refusals = s.refusals }

-- after so many calls the next one is to fail: its number stands in the list
abbrev pub IsToFail : List ℕ → ℕ → Type 0
IsToFail fail calls = Contains fail (held_sum calls 1)

-- the files after one more call, and nothing else
abbrev pub after_call : FilesState → FilesState
after_call files = record files { calls = held_sum files.calls 1 }

-- the files after one more call that asked for so many bytes, and nothing else
abbrev pub after_read : FilesState → ℕ → FilesState
after_read files asked = record files {
  calls = held_sum files.calls 1;
  taken = held_sum files.taken asked;
}

-- the files with one more name that wasn't found
abbrev pub with_miss : FilesState → FilesState
with_miss files = record files { misses = held_sum files.misses 1 }

-- the files with one more failed read
abbrev pub with_fault : FilesState → FilesState
with_fault files = record files { faults = held_sum files.faults 1 }

-- the files with another folder
abbrev pub with_folder : FilesState → Folder → FilesState
with_folder files folder = record files { folder = folder }

-- the folder that a failing replacement of a name by these bytes leaves
abbrev pub torn_folder : Torn → Folder → List ℕ → List ℕ → Folder
torn_folder Old folder name bytes = folder
torn_folder (First n) folder name bytes = with_file folder name (take n bytes)

-- the files with one more failed replacement of a name by these bytes
abbrev pub with_torn_file : FilesState → List ℕ → List ℕ → FilesState
with_torn_file files name bytes = record files {
  folder = torn_folder files.torn files.folder name bytes;
  write_faults = held_sum files.write_faults 1;
}

-- the sink after one more put, and nothing else
abbrev pub after_put : SinkState → SinkState
after_put sink = record sink { calls = held_sum sink.calls 1 }

-- the sink with these bytes behind what it held
abbrev pub with_bytes : SinkState → List ℕ → SinkState
with_bytes sink bytes = record sink { bytes = sink.bytes ++ bytes }

-- the sink with one more failed put of these bytes
abbrev pub with_torn_bytes : SinkState → List ℕ → SinkState
with_torn_bytes sink bytes = record sink {
  bytes = sink.bytes ++ take sink.torn bytes;
  faults = held_sum sink.faults 1;
}

-- the sink with one more put that found no memory
abbrev pub with_refusal : SinkState → SinkState
with_refusal sink = record sink { refusals = held_sum sink.refusals 1 }
