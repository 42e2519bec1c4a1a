-- The measure of a piece. Source: our own.
use Rattle.std.specs.Prelude.{ℕ, ◌+◌, ◌-◌, min, max, ℤ, List, [], length, map, sum, slice_index_or}
use Rattle.std.specs.List.{range_with_len}
use Rattle.piece_measure.specs.Triangle.{triangle_measure}

-- the greatest measure of a piece, 2^40 - 1
abbrev pub greatest_measure : ℕ
greatest_measure = 1099511627775

-- the triangle of the first corner and of those at the places t and t + 1, where places count from 0
abbrev pub fan_triangle : List (List ℤ) → ℕ → ℕ
fan_triangle corners t = triangle_measure (slice_index_or corners 0 []) (slice_index_or corners t []) (slice_index_or corners (t + 1) [])

-- the sum over the fan of triangles from the first corner
unfoldable pub fan_measure : List (List ℤ) → ℕ
fan_measure corners = sum (map (fan_triangle corners) (range_with_len 1 (length corners - 2)))

-- that sum, held between 1 and the greatest measure
unfoldable pub piece_measure_of : List (List ℤ) → ℕ
piece_measure_of corners = max 1 (min (fan_measure corners) greatest_measure)
