-- Which faces hold a node, and meshes of triangles. Source: our own.
use Rattle.std.specs.Prelude.{◌≡◌, ◌≤◌, ◌<◌, ℕ, ◌+◌, ℤ, pos, ◌≤ℤ◌, unsigned_abs, if◌then◌else◌, List, [], ◌∷◌, length, flat_map, slice_index_or, All}
use Rattle.std.specs.List.{range_with_len}
use Rattle.std.specs.Ordering.{int_eq}

-- j is one of the numbers from 1 to count
abbrev pub IsNumberTo : ℕ → ℤ → Type 0
IsNumberTo count j = (pos 1 ≤ℤ j) × (j ≤ℤ pos count)

abbrev pub IsTriple : List ℤ → Type 0
IsTriple face = length face ≡ 3

-- a triangle, given by three of so many numbers
pub record IsTriangle (count : ℕ) (face : List ℤ) : Type 0 where
  pub corners : IsTriple face
  pub numbers : All (IsNumberTo count) face

-- no component is above 131,072 in size
abbrev pub IsSmallNode : List ℤ → Type 0
IsSmallNode node = All (λ x. unsigned_abs x ≤ 131072) node

-- face t, where this number of it is p
abbrev pub hit : ℤ → ℕ → ℤ → List ℕ
hit p t number = if int_eq number p then t ∷ [] else []

-- face t, once for each place at which it has p
abbrev pub hits : ℤ → ℕ → List ℤ → List ℕ
hits p t face = flat_map (hit p t) face

-- those of the first k faces that hold p, ascending, from 0
unfoldable pub holding_below : List (List ℤ) → ℤ → ℕ → List ℕ
holding_below faces p k = flat_map (λ t. hits p t (slice_index_or faces t [])) (range_with_len 0 k)

-- the faces that hold p
abbrev pub holding : List (List ℤ) → ℤ → List ℕ
holding faces p = holding_below faces p (length faces)

-- a table has, for each node, those of the first k faces that hold it
abbrev pub IsTableBelow : List (List ℤ) → ℕ → List (List ℕ) → Type 0
IsTableBelow faces k table = (q : ℕ) → q < length table → slice_index_or table q [] ≡ holding_below faces (pos (q + 1)) k
