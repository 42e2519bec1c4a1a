use Rattle.std.proofs.Common.{◌≡◌, ◌-◌, ◌∷◌}
use Rattle.std.specs.List.{flat_map, range_with_len}
use Rattle.gen_rll.specs.LatitudeLongitude.{ring_nodes, south_pole}
use Rattle.gen_rll.proofs.nodes.all_nodes.Given as goal

abbrev pub invariant-loop-j : goal.invariant-loop-j
invariant-loop-j l = l.out.items ≡ south_pole ∷ flat_map (ring_nodes l.lon l.lat) (range_with_len 1 (l.j - 1))
