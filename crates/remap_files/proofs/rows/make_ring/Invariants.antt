use Rattle.std.proofs.Common.{◌≡◌, map, take, unsigned_abs}
use Rattle.remap_files.proofs.rows.make_ring.Given as goal

abbrev pub invariant-loop-number : goal.invariant-loop-number
invariant-loop-number l = l.ring.items ≡ map unsigned_abs (take l.number-index l.numbers)
