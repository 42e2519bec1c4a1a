-- Counts that never fall, over calls one after another.
use Rattle.std.proofs.Common.{◌≤◌, ◌∙◌, ℕ, refl, arith}
use Rattle.remap_io.specs.Causes.{Rose, IsLater}
use Rattle.remap_io.specs.Outside.{FilesSeen, SinkSeen, NoCountFalls, NoPutCountFalls, OnlyReads}

pub later_on : (a b c : ℕ) → IsLater a b → IsLater b c → IsLater a c
later_on a b c h k = (omega (arith, h.0, k.0), λ last. k.1 (h.1 last))

-- a count that rose in a part of a call rose in the call
pub rose_in : (a b c d : ℕ) → a ≤ b → Rose b c → c ≤ d → Rose a d
rose_in a b c d le rose later = omega arith

pub rose_later : (a b c : ℕ) → IsLater a b → Rose b c → Rose a c
rose_later a b c h rose = rose_in a b c c h.0 rose (omega arith)

pub rose_before : (a b c : ℕ) → Rose a b → IsLater b c → Rose a c
rose_before a b c rose h = rose_in a a b c (omega arith) rose h.0

pub counts_on : {a b c : FilesSeen} → NoCountFalls a b → NoCountFalls b c → NoCountFalls a c
counts_on h k = record {
  faults = later_on _ _ _ h.faults k.faults;
  write_faults = later_on _ _ _ h.write_faults k.write_faults;
  misses = later_on _ _ _ h.misses k.misses;
  taken = later_on _ _ _ h.taken k.taken;
}

pub puts_on : {a b c : SinkSeen} → NoPutCountFalls a b → NoPutCountFalls b c → NoPutCountFalls a c
puts_on h k = record { faults = later_on _ _ _ h.faults k.faults; refusals = later_on _ _ _ h.refusals k.refusals }

pub reads_on : {a b c : FilesSeen} → OnlyReads a b → OnlyReads b c → OnlyReads a c
reads_on h k = record { same_folder = k.same_folder ∙ h.same_folder; counts = counts_on h.counts k.counts }

-- a call that changes nothing only reads
pub later_same : (a : ℕ) → IsLater a a
later_same a = (omega arith, λ last. last)

pub reads_nothing : (a : FilesSeen) → OnlyReads a a
reads_nothing a = record {
  same_folder = refl;
  counts = record { faults = later_same a.faults; write_faults = later_same a.write_faults; misses = later_same a.misses; taken = later_same a.taken };
}

pub no_put_falls : (a : SinkSeen) → NoPutCountFalls a a
no_put_falls a = record { faults = later_same a.faults; refusals = later_same a.refusals }
