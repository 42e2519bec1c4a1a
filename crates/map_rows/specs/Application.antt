-- The application of a map to a field over its sources, and the masses of a field on either side. A field has slices, one after another, each with a value for every face.
-- Source: Ullrich and Taylor (2015), "Arbitrary-order conservative and consistent remapping and a theory of linear maps", for the map and its conservation; the form as whole parts and rests is our own.
use Rattle.std.specs.Prelude.{ℕ, ◌+◌, ◌-◌, ◌*◌, ℤ, pos, ◌+ℤ◌, ◌-ℤ◌, ◌*ℤ◌, List, map, slice_index_or}
use Rattle.std.specs.List.{range_with_len, flat_map}
use Rattle.std.specs.Int.{int_div_euclid}
use Rattle.map_rows.specs.declared.rows.MapRow.{MapRow}
use Rattle.map_rows.specs.Maps.{MapParts, total, sum_at, target_of}

-- the sum of f over `count` numbers from `first`
abbrev pub sum_over : ℕ → ℕ → (ℕ → ℤ) → ℤ
sum_over first count f = total (map f (range_with_len first count))

-- the value of face i of n in this slice, where slices count from 0 and faces from 1
abbrev pub value_at : List ℤ → ℕ → ℕ → ℕ → ℤ
value_at values n slice i = slice_index_or values (slice * n + (i - 1)) (pos 0)

-- the area of face i
abbrev pub area_at : List ℤ → ℕ → ℤ
area_at areas i = slice_index_or areas (i - 1) (pos 0)

-- what a row carries over in this slice: measure times value
abbrev pub product_of : List ℤ → ℕ → ℕ → MapRow → ℤ
product_of values n_a slice r = r.s *ℤ value_at values n_a slice r.col

-- what target j gets in this slice: the sum of measure times value over its rows
abbrev pub weighted_sum_of : MapParts → List ℤ → ℕ → ℕ → ℤ
weighted_sum_of m values slice j = sum_at target_of (product_of values m.n_a slice) m.rows j

-- a whole part and a rest
pub record WholeAndRest : Type 0 where
  pub whole : ℤ
  pub rest : ℤ

-- a sum over an area above 0: the floor, and what it leaves
abbrev pub divided : ℤ → ℤ → WholeAndRest
divided sum area = let whole = int_div_euclid sum area in record { whole = whole; rest = sum -ℤ (area *ℤ whole) }

-- what target j gets in this slice, as a whole part and a rest
abbrev pub share_at : MapParts → List ℤ → ℕ → ℕ → WholeAndRest
share_at m values slice j = divided (weighted_sum_of m values slice j) (area_at m.area_b j)

-- what the targets get in this slice, target by target
abbrev pub slice_of : MapParts → List ℤ → ℕ → List WholeAndRest
slice_of m values slice = map (share_at m values slice) (range_with_len 1 m.n_b)

-- slice by slice, and in each target by target
unfoldable pub application_of : MapParts → ℕ → List ℤ → List WholeAndRest
application_of m slices values = flat_map (slice_of m values) (range_with_len 0 slices)

-- the whole parts, and the rests
abbrev pub whole_of : WholeAndRest → ℤ
whole_of p = p.whole

abbrev pub rest_of : WholeAndRest → ℤ
rest_of p = p.rest

abbrev pub wholes_of : List WholeAndRest → List ℤ
wholes_of shares = map whole_of shares

abbrev pub rests_of : List WholeAndRest → List ℤ
rests_of shares = map rest_of shares

-- the sum of area times value over all sources of all slices
unfoldable pub source_mass_of : MapParts → ℕ → List ℤ → ℤ
source_mass_of m slices values =
    sum_over 0 slices (λ (slice : ℕ). sum_over 1 m.n_a (λ (i : ℕ). area_at m.area_a i *ℤ value_at values m.n_a slice i))

-- the sum of area times whole part plus rest over all targets of all slices
unfoldable pub target_mass_of : MapParts → ℕ → List ℤ → List ℤ → ℤ
target_mass_of m slices wholes rests =
    sum_over 0 slices (λ (slice : ℕ). sum_over 1 m.n_b (λ (j : ℕ). (area_at m.area_b j *ℤ value_at wholes m.n_b slice j) +ℤ value_at rests m.n_b slice j))
