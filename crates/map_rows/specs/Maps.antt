-- Maps as contracts see them, and what each of them keeps.
-- Source: Ullrich and Taylor (2015), "Arbitrary-order conservative and consistent remapping and a theory of linear maps", for the map of first order over its own areas.
-- That the measure of a row is a whole number is our own.
use Rattle.std.specs.Prelude.{◌≡◌, ◌==◌, ℕ, ◌<◌, ◌≤◌, ◌^◌, ◌⊎◌, ℤ, pos, ◌+ℤ◌, ◌≤ℤ◌, ◌<ℤ◌, List, [], ◌∷◌, length, map, filter, All, AllPairs}
use Rattle.std.specs.List.{range_with_len}
use Rattle.map_rows.specs.declared.rows.MapRow.{MapRow}

-- the sum of a list
unfoldable pub total : List ℤ → ℤ
total [] = pos 0
total (x ∷ xs) = x +ℤ total xs

-- the source face and the target face of a row
abbrev pub source_of : MapRow → ℕ
source_of r = r.col

abbrev pub target_of : MapRow → ℕ
target_of r = r.row

-- the measure of a row
abbrev pub measure_of : MapRow → ℤ
measure_of r = r.s

-- the rows of face i, where face_of gives the face of a row
abbrev pub rows_of : (MapRow → ℕ) → List MapRow → ℕ → List MapRow
rows_of face_of rows i = filter (λ (r : MapRow). face_of r == i) rows

-- the sources of target j
abbrev pub sources_of : List MapRow → ℕ → List ℕ
sources_of rows j = map source_of (rows_of target_of rows j)

-- the sum of f over the rows of face i
abbrev pub sum_at : (MapRow → ℕ) → (MapRow → ℤ) → List MapRow → ℕ → ℤ
sum_at face_of f rows i = total (map f (rows_of face_of rows i))

-- and those sums for n faces, which count from 1
unfoldable pub sums_of : (MapRow → ℕ) → (MapRow → ℤ) → ℕ → List MapRow → List ℤ
sums_of face_of f n rows = map (sum_at face_of f rows) (range_with_len 1 n)

-- the area of a face is the sum of the measures of its rows
abbrev pub areas_of : (MapRow → ℕ) → ℕ → List MapRow → List ℤ
areas_of face_of n rows = sums_of face_of measure_of n rows

-- the face counts of two meshes, rows of them, and the areas of their faces
pub record MapParts : Type 0 where
  pub n_a : ℕ
  pub n_b : ℕ
  pub rows : List MapRow
  pub area_a : List ℤ
  pub area_b : List ℤ

-- the source face of p comes before that of q, or they have one source face and the target face of p comes before that of q
abbrev pub ComesBefore : MapRow → MapRow → Type 0
ComesBefore p q = (p.col < q.col) ⊎ ((p.col ≡ q.col) × (p.row < q.row))

-- a row of two meshes with these face counts
pub record IsSoundRow (n_a n_b : ℕ) (r : MapRow) : Type 0 where
  pub source : (1 ≤ r.col) × (r.col ≤ n_a)
  pub target : (1 ≤ r.row) × (r.row ≤ n_b)
  pub least : pos 1 ≤ℤ r.s
  pub greatest : r.s ≤ℤ pos 1099511627775

-- the measure of a row is one of a piece
abbrev pub HasMeasure : MapRow → Type 0
HasMeasure r = (pos 1 ≤ℤ r.s) × (r.s ≤ℤ pos 1099511627775)

-- a mesh may have this many faces
abbrev pub IsFaceCount : ℕ → Type 0
IsFaceCount n = (1 ≤ n) × (n ≤ 1048576)

-- what each map keeps
pub record IsSoundMap (m : MapParts) : Type 0 where
  pub source_faces : IsFaceCount m.n_a
  pub target_faces : IsFaceCount m.n_b
  pub count : length m.rows ≤ 8388608
  -- the rows stand in strictly ascending order
  pub ascending : AllPairs ComesBefore m.rows
  pub rows : All (IsSoundRow m.n_a m.n_b) m.rows
  pub source_areas : m.area_a ≡ areas_of source_of m.n_a m.rows
  pub target_areas : m.area_b ≡ areas_of target_of m.n_b m.rows
  -- each target face has a row
  pub covered : All (λ (area : ℤ). pos 1 ≤ℤ area) m.area_b

-- the areas of the two sides have one sum, which is below 2^63
pub record HasFittingAreas (m : MapParts) : Type 0 where
  pub same : total m.area_a ≡ total m.area_b
  pub fit : total m.area_a <ℤ pos (2 ^ 63)

-- what each map keeps is enough for that
abbrev pub AreasFit : Type 0
AreasFit = (m : MapParts) → IsSoundMap m → HasFittingAreas m
