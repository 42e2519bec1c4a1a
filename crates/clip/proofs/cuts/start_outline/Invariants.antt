use Rattle.std.proofs.Common.{◌≡◌, length}
use Rattle.std.specs.List.{range_with_len}
use Rattle.clip.proofs.cuts.start_outline.Given as goal

abbrev pub invariant-loop-i : goal.invariant-loop-i
invariant-loop-i l = record { len : length l.ring.items ≡ l.i; numbers : l.ring.items ≡ range_with_len 1 l.i }
