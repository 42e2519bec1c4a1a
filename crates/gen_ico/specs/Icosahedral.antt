-- The icosahedral mesh of resolution n. Source: our own, in its numbers and orders.
use Rattle.std.specs.Prelude.{◌≡◌, ◌↔◌, ℕ, ◌+◌, ◌-◌, nat_le, ℤ, pos, ◌+ℤ◌, ◌*ℤ◌, if◌then◌else◌, List, [], ◌∷◌, map, flat_map, slice_index_or}
use Rattle.std.specs.List.{range_with_len, position_or_len, Contains}
use Rattle.std.specs.List.Sorted.{IsStrictlySortedBy}
use Rattle.std.specs.Ordering.{int_cmp, int_eq}
use Rattle.std.specs.Cmp.Lexicographic.{pointwise, slice_cmp}
use Rattle.vec_exact.specs.declared.RawMesh.{RawMesh}
use Rattle.vec_exact.specs.Rounding.{rounded}
use Rattle.gen_ico.specs.Icosahedron.{base_node, base_triangles}

-- one component of the point (i, j) of a triangle
abbrev pub between : ℕ → ℕ → ℕ → ℤ → ℤ → ℤ → ℤ
between n i j a b c = rounded (a *ℤ pos (n - i - j) +ℤ b *ℤ pos i +ℤ c *ℤ pos j) n

-- component k, from 0, of corner s, from 0, of a base triangle
abbrev pub corner_component : List ℕ → ℕ → ℕ → ℤ
corner_component triangle s k = slice_index_or (base_node (slice_index_or triangle s 0)) k (pos 0)

abbrev pub point_component : ℕ → List ℕ → ℕ → ℕ → ℕ → ℤ
point_component n triangle i j k = between n i j (corner_component triangle 0 k) (corner_component triangle 1 k) (corner_component triangle 2 k)

-- the point (i, j) of a base triangle, where i + j is at most n
unfoldable pub point : ℕ → List ℕ → ℕ → ℕ → List ℤ
point n triangle i j = point_component n triangle i j 0 ∷ point_component n triangle i j 1 ∷ point_component n triangle i j 2 ∷ []

abbrev pub row_points : ℕ → List ℕ → ℕ → List (List ℤ)
row_points n triangle i = map (point n triangle i) (range_with_len 0 (n + 1 - i))

abbrev pub triangle_points : ℕ → List ℕ → List (List ℤ)
triangle_points n triangle = flat_map (row_points n triangle) (range_with_len 0 (n + 1))

-- the points of all base triangles
unfoldable pub points_of : ℕ → List (List ℤ)
points_of n = flat_map (triangle_points n) base_triangles

-- the nodes: the distinct points in ascending lexicographic order
pub record AreNodes (n : ℕ) (nodes : List (List ℤ)) : Type 0 where
  pub ascending : IsStrictlySortedBy (slice_cmp int_cmp) nodes
  pub points : (p : List ℤ) → Contains nodes p ↔ Contains (points_of n) p

-- the number of a point: its place among the nodes, from 1
abbrev pub number_of : List (List ℤ) → List ℤ → ℤ
number_of nodes p = pos (position_or_len (λ m. pointwise int_eq m p) nodes + 1)

abbrev pub number_at : List (List ℤ) → ℕ → List ℕ → ℕ → ℕ → ℤ
number_at nodes n triangle i j = number_of nodes (point n triangle i j)

-- the small triangle at (i, j) that points as its base triangle does, and the one behind it that points the other way
abbrev pub upright : List (List ℤ) → ℕ → List ℕ → ℕ → ℕ → List ℤ
upright nodes n triangle i j = number_at nodes n triangle i j ∷ number_at nodes n triangle (i + 1) j ∷ number_at nodes n triangle i (j + 1) ∷ []

abbrev pub inverted : List (List ℤ) → ℕ → List ℕ → ℕ → ℕ → List ℤ
inverted nodes n triangle i j = number_at nodes n triangle (i + 1) j ∷ number_at nodes n triangle (i + 1) (j + 1) ∷ number_at nodes n triangle i (j + 1) ∷ []

-- the second one right after the first, where the base triangle has it
unfoldable pub faces_at : List (List ℤ) → ℕ → List ℕ → ℕ → ℕ → List (List ℤ)
faces_at nodes n triangle i j = upright nodes n triangle i j ∷ (if nat_le (i + j + 2) n then inverted nodes n triangle i j ∷ [] else [])

abbrev pub row_faces : List (List ℤ) → ℕ → List ℕ → ℕ → List (List ℤ)
row_faces nodes n triangle i = flat_map (faces_at nodes n triangle i) (range_with_len 0 (n - i))

abbrev pub triangle_faces : List (List ℤ) → ℕ → List ℕ → List (List ℤ)
triangle_faces nodes n triangle = flat_map (row_faces nodes n triangle) (range_with_len 0 n)

-- base triangle by base triangle
unfoldable pub faces_of : List (List ℤ) → ℕ → List (List ℤ)
faces_of nodes n = flat_map (triangle_faces nodes n) base_triangles

-- this is the icosahedral mesh of resolution n
pub record IsIcosahedral (n : ℕ) (raw : RawMesh) : Type 0 where
  pub nodes : AreNodes n raw.nodes
  pub faces : raw.faces ≡ faces_of raw.nodes n
