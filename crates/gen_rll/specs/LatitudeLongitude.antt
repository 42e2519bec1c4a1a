-- The latitude-longitude mesh of lon by lat, on a sphere of radius 2^17. Source: our own, in its numbers and orders.
use Rattle.std.specs.Prelude.{ℕ, ◌+◌, ◌-◌, ◌*◌, ◌%◌, ◌^◌, ◌==◌, ℤ, pos, neg_ℤ, ◌-ℤ◌, ◌*ℤ◌, if◌then◌else◌, List, [], ◌∷◌, ◌++◌, map, flat_map}
use Rattle.std.specs.List.{range_with_len}
use Rattle.vec_exact.specs.declared.RawMesh.{RawMesh}
use Rattle.vec_exact.specs.Rounding.{rounded}
use Rattle.gen_rll.specs.Trigonometry.{trig_of}

-- the two poles
abbrev pub south_pole : List ℤ
south_pole = pos 0 ∷ pos 0 ∷ neg_ℤ (pos 131072) ∷ []

abbrev pub north_pole : List ℤ
north_pole = pos 0 ∷ pos 0 ∷ pos 131072 ∷ []

-- the point at a latitude and a longitude, each given by its cosine and sine in units of 2^-30
unfoldable pub point : ℤ × ℤ → ℤ × ℤ → List ℤ
point latitude longitude =
    rounded (latitude.0 *ℤ longitude.0) (2 ^ 43)
    ∷ rounded (latitude.0 *ℤ longitude.1) (2 ^ 43)
    ∷ rounded latitude.1 (2 ^ 13)
    ∷ []

-- node k, from 0, of ring j, from 1 to lat - 1: the rings go from south to north
abbrev pub ring_node : ℕ → ℕ → ℕ → ℕ → List ℤ
ring_node lon lat j k = point (trig_of (pos (2 * j) -ℤ pos lat) (4 * lat)) (trig_of (pos k) lon)

-- cosine and sine of the latitude of ring j
abbrev pub latitude_at : ℕ → ℕ → ℤ × ℤ
latitude_at lat j = trig_of (pos (2 * j) -ℤ pos lat) (4 * lat)

-- cosine and sine of longitude k, and of all longitudes
abbrev pub longitude_at : ℕ → ℕ → ℤ × ℤ
longitude_at lon k = trig_of (pos k) lon

abbrev pub longitudes_of : ℕ → List (ℤ × ℤ)
longitudes_of lon = map (longitude_at lon) (range_with_len 0 lon)

abbrev pub ring_nodes : ℕ → ℕ → ℕ → List (List ℤ)
ring_nodes lon lat j = map (ring_node lon lat j) (range_with_len 0 lon)

-- the south pole, the rings, the north pole
unfoldable pub nodes_of : ℕ → ℕ → List (List ℤ)
nodes_of lon lat = south_pole ∷ flat_map (ring_nodes lon lat) (range_with_len 1 (lat - 1)) ++ north_pole ∷ []

-- the number, from 1, of node k modulo lon of ring j
abbrev pub ring_number : ℕ → ℕ → ℕ → ℤ
ring_number lon j k = pos (2 + (j - 1) * lon + k % lon)

-- the number of the north pole
abbrev pub last_number : ℕ → ℕ → ℤ
last_number lon lat = pos (2 + (lat - 1) * lon)

-- face k of band j, both from 0: triangles at the poles, else quadrangles
unfoldable pub face_at : ℕ → ℕ → ℕ → ℕ → List ℤ
face_at lon lat j k =
    if j == 0 then pos 1 ∷ ring_number lon 1 (k + 1) ∷ ring_number lon 1 k ∷ []
    else if j == lat - 1 then ring_number lon j k ∷ ring_number lon j (k + 1) ∷ last_number lon lat ∷ []
    else ring_number lon j k ∷ ring_number lon j (k + 1) ∷ ring_number lon (j + 1) (k + 1) ∷ ring_number lon (j + 1) k ∷ []

abbrev pub band_faces : ℕ → ℕ → ℕ → List (List ℤ)
band_faces lon lat j = map (face_at lon lat j) (range_with_len 0 lon)

-- band by band, from south to north
unfoldable pub faces_of : ℕ → ℕ → List (List ℤ)
faces_of lon lat = flat_map (band_faces lon lat) (range_with_len 0 lat)

unfoldable pub latitude_longitude : ℕ → ℕ → RawMesh
latitude_longitude lon lat = record { nodes = nodes_of lon lat; faces = faces_of lon lat }
