use Rattle.std.proofs.Common.{◌≡◌, ◌++◌, map, take}
use Rattle.gen_rll.specs.LatitudeLongitude.{point}
use Rattle.gen_rll.proofs.nodes.put_points.Given as goal

abbrev pub invariant-loop-longitude : goal.invariant-loop-longitude
invariant-loop-longitude l = l.out.items ≡ l.fn.out.items ++ map (point l.latitude) (take l.longitude-index l.longitudes)
