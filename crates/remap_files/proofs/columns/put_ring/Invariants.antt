use Rattle.std.proofs.Common.{◌≡◌, ◌++◌, take, map, pos}
use Rattle.remap_files.proofs.columns.put_ring.Given as goal

abbrev pub invariant-loop-number : goal.invariant-loop-number
invariant-loop-number l = l.values.items ≡ l.fn.values.items ++ map (λ n. pos n) (take l.number-index l.ring)
