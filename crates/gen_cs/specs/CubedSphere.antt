-- The cubed sphere of resolution n. Source: our own, in its numbers and orders; the equidistant gnomonic projection of the cube.
use Rattle.std.specs.Prelude.{ℕ, ◌+◌, ◌*◌, ◌==◌, Bool, ◌||◌, ℤ, pos, ◌-ℤ◌, if◌then◌else◌, List, [], ◌∷◌, map, flat_map}
use Rattle.std.specs.List.{range_with_len, position_or_len}
use Rattle.std.specs.Ordering.{int_eq}
use Rattle.std.specs.Cmp.Lexicographic.{pointwise}
use Rattle.vec_exact.specs.declared.RawMesh.{RawMesh}
use Rattle.vec_exact.specs.declared.Vec3.{Vec3}
use Rattle.vec_exact.specs.declared.panels.Panel.{Panel}
use Rattle.vec_exact.specs.declared.panels.Panel.TheVariants.{PlusX, PlusY, MinusX, MinusY, PlusZ, MinusZ}
use Rattle.vec_exact.specs.Panel.{on_panel}

-- the whole numbers from -n to n that have the parity of n, by their places from 0 to n
abbrev pub coordinate : ℕ → ℕ → ℤ
coordinate n i = pos (2 * i) -ℤ pos n

-- the coordinate at this place is n in size
abbrev pub is_end : ℕ → ℕ → Bool
is_end n i = (i == 0) || (i == n)

abbrev pub node_at : ℕ → ℕ → ℕ → ℕ → List ℤ
node_at n a b c = coordinate n a ∷ coordinate n b ∷ coordinate n c ∷ []

-- a triple is a node where at least one of its components is n in size
abbrev pub if_node : ℕ → ℕ → ℕ → ℕ → List (List ℤ)
if_node n a b c = if is_end n a || is_end n b || is_end n c then node_at n a b c ∷ [] else []

-- the places of all coordinates
abbrev pub places : ℕ → List ℕ
places n = range_with_len 0 (n + 1)

-- the nodes with these first two coordinates, and those with this first one
abbrev pub row_of : ℕ → ℕ → ℕ → List (List ℤ)
row_of n a b = flat_map (if_node n a b) (places n)

abbrev pub slice_of : ℕ → ℕ → List (List ℤ)
slice_of n a = flat_map (row_of n a) (places n)

-- all nodes, in ascending lexicographic order
unfoldable pub nodes_of : ℕ → List (List ℤ)
nodes_of n = flat_map (slice_of n) (places n)

abbrev pub components : Vec3 → List ℤ
components v = v.x ∷ v.y ∷ v.z ∷ []

-- the point (i, j) of a panel, i and j from 0 to n
abbrev pub corner : ℕ → Panel → ℕ → ℕ → List ℤ
corner n panel i j = components (on_panel panel (pos n) (coordinate n i) (coordinate n j))

-- the number of a triple among the nodes, from 1
abbrev pub number_of : List (List ℤ) → List ℤ → ℤ
number_of nodes t = pos (position_or_len (λ m. pointwise int_eq m t) nodes + 1)

-- the square (i, j) of a panel, by the numbers of its four corners
abbrev pub face_at : List (List ℤ) → ℕ → Panel → ℕ → ℕ → List ℤ
face_at nodes n panel j i =
    map (number_of nodes) (corner n panel i j ∷ corner n panel (i + 1) j ∷ corner n panel (i + 1) (j + 1) ∷ corner n panel i (j + 1) ∷ [])

abbrev pub row_faces : List (List ℤ) → ℕ → Panel → ℕ → List (List ℤ)
row_faces nodes n panel j = map (face_at nodes n panel j) (range_with_len 0 n)

abbrev pub panel_faces : List (List ℤ) → ℕ → Panel → List (List ℤ)
panel_faces nodes n panel = flat_map (row_faces nodes n panel) (range_with_len 0 n)

abbrev pub panels : List Panel
panels = PlusX ∷ PlusY ∷ MinusX ∷ MinusY ∷ PlusZ ∷ MinusZ ∷ []

-- panel by panel, row by row
abbrev pub faces_of : List (List ℤ) → ℕ → List (List ℤ)
faces_of nodes n = flat_map (panel_faces nodes n) panels

unfoldable pub cubed_sphere : ℕ → RawMesh
cubed_sphere n = record { nodes = nodes_of n; faces = faces_of (nodes_of n) n }
