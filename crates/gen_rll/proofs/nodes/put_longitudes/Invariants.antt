use Rattle.std.proofs.Common.{◌≡◌, ◌++◌, map}
use Rattle.std.specs.List.{range_with_len}
use Rattle.gen_rll.specs.LatitudeLongitude.{longitude_at}
use Rattle.gen_rll.proofs.nodes.put_longitudes.Given as goal

abbrev pub invariant-loop-k : goal.invariant-loop-k
invariant-loop-k l = l.out.items ≡ l.fn.out.items ++ map (longitude_at l.lon) (range_with_len 0 l.k)
