-- What is told of the real files and writers: counts, and nothing of what files hold.
use Rattle.std.specs.Prelude.{ℕ, List, Option, None}
use Rattle.remap_io.specs.Causes.{held_sum}
use Rattle.remap_io.specs.Outside.{FilesSeen, SinkSeen}

-- the counts of a `HostFiles`
pub record HostCounts : Type 0 where
  pub faults : ℕ
  pub write_faults : ℕ
  pub misses : ℕ
  pub taken : ℕ

-- the counts after a call that asked for so many bytes
abbrev pub with_asked : HostCounts → ℕ → HostCounts
with_asked counts asked = record counts { taken = held_sum counts.taken asked }

-- a `HostSink`: the bytes that its writer holds, where they are known of such a writer, and its count
pub record WriterState : Type 0 where
  pub written : Option (List ℕ)
  pub faults : ℕ

-- what each of them shows
abbrev pub seen_of_host : HostCounts → FilesSeen
seen_of_host s = record { folder = None; faults = s.faults; write_faults = s.write_faults; misses = s.misses; taken = s.taken }

abbrev pub seen_of_writer : WriterState → SinkSeen
seen_of_writer s = record { contents = None; faults = s.faults; refusals = 0 }
