-- How many nodes and faces there are.
use Rattle.std.proofs.Common.{◌≡◌, ◌+◌, ◌-◌, ◌*◌, ℕ, [], ◌∷◌, arith, length, length-append}
use Rattle.std.proofs.lemmas.List.FromFn.{length-map-range_with_len}
use Rattle.std.specs.List.{flat_map, range_with_len}
use Rattle.gen_rll.specs.LatitudeLongitude.{band_faces, face_at, faces_of, nodes_of, north_pole, ring_node, ring_nodes}
use Rattle.gen_rll.proofs.Ranges.{length_even}

pub count_nodes : (lon lat : ℕ) → length (nodes_of lon lat) ≡ (lat - 1) * lon + 2
unfolding nodes_of
count_nodes lon lat =
    let rings = flat_map (ring_nodes lon lat) (range_with_len 1 (lat - 1)) in
    omega (
      arith,
      length-append rings (north_pole ∷ []),
      length_even (ring_nodes lon lat) lon 1 (lat - 1) (λ j. length-map-range_with_len (ring_node lon lat j) 0 lon),
    )

pub count_faces : (lon lat : ℕ) → length (faces_of lon lat) ≡ lat * lon
unfolding faces_of
count_faces lon lat = length_even (band_faces lon lat) lon 0 lat (λ j. length-map-range_with_len (face_at lon lat j) 0 lon)
