use Rattle.std.proofs.Common.{◌≡◌, ◌++◌, map}
use Rattle.std.specs.List.{range_with_len}
use Rattle.gen_rll.specs.LatitudeLongitude.{face_at}
use Rattle.gen_rll.proofs.faces.put_band.Given as goal

abbrev pub invariant-loop-k : goal.invariant-loop-k
invariant-loop-k l = l.out.items ≡ l.fn.out.items ++ map (face_at l.lon l.lat l.j) (range_with_len 0 l.k)
