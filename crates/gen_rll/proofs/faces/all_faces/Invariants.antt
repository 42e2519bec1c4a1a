use Rattle.std.proofs.Common.{◌≡◌}
use Rattle.std.specs.List.{flat_map, range_with_len}
use Rattle.gen_rll.specs.LatitudeLongitude.{band_faces}
use Rattle.gen_rll.proofs.faces.all_faces.Given as goal

abbrev pub invariant-loop-j : goal.invariant-loop-j
invariant-loop-j l = l.out.items ≡ flat_map (band_faces l.lon l.lat) (range_with_len 0 l.j)
