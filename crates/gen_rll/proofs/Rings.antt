-- A ring has its nodes at one latitude.
use Rattle.std.proofs.Common.{◌≡◌, ◌∙◌, ℕ, ℤ, List, ◌++◌, map, ap}
use Rattle.std.specs.List.{range_with_len}
use Rattle.gen_rll.specs.LatitudeLongitude.{latitude_at, longitude_at, longitudes_of, point, ring_nodes}
use Rattle.gen_rll.proofs.Ranges.{map_of_map}

pub ring_behind : (lon lat j : ℕ) (latitude : ℤ × ℤ) (longitudes : List (ℤ × ℤ)) (out put : List (List ℤ)) → latitude ≡ latitude_at lat j → longitudes ≡ longitudes_of lon → put ≡ out ++ map (point latitude) longitudes → put ≡ out ++ ring_nodes lon lat j
ring_behind lon lat j latitude longitudes out put here all more =
    more
    ∙ ap (λ (p : ℤ × ℤ). out ++ map (point p) longitudes) here
    ∙ ap (λ (l : List (ℤ × ℤ)). out ++ map (point (latitude_at lat j)) l) all
    ∙ ap (λ l. out ++ l) (map_of_map (point (latitude_at lat j)) (longitude_at lon) (range_with_len 0 lon))
