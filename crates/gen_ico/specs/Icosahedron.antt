-- A nearly regular icosahedron with whole coordinates. Source: our own numbers and orders; the golden ratio is taken as 131072 to 81007.
use Rattle.std.specs.Prelude.{int_lt, ℕ, ◌≤◌, ◌+◌, ◌-◌, Bool, ◌&&◌, ℤ, pos, neg_ℤ, if◌then◌else◌, List, [], ◌∷◌, flat_map, slice_index_or}
use Rattle.std.specs.List.{range_with_len}
use Rattle.vec_exact.specs.Vector.{inner, det}
use Rattle.vec_exact.specs.Face.{vector_of}

abbrev pub node : ℤ → ℤ → ℤ → List ℤ
node x y z = x ∷ y ∷ z ∷ []

-- the two sizes of a coordinate that is not zero
abbrev pub short : ℤ
short = pos 81007

abbrev pub long : ℤ
long = pos 131072

-- the twelve base nodes, in ascending lexicographic order
abbrev pub base_nodes : List (List ℤ)
base_nodes =
    node (neg_ℤ long) (pos 0) (neg_ℤ short)
    ∷ node (neg_ℤ long) (pos 0) short
    ∷ node (neg_ℤ short) (neg_ℤ long) (pos 0)
    ∷ node (neg_ℤ short) long (pos 0)
    ∷ node (pos 0) (neg_ℤ short) (neg_ℤ long)
    ∷ node (pos 0) (neg_ℤ short) long
    ∷ node (pos 0) short (neg_ℤ long)
    ∷ node (pos 0) short long
    ∷ node short (neg_ℤ long) (pos 0)
    ∷ node short long (pos 0)
    ∷ node long (pos 0) (neg_ℤ short)
    ∷ node long (pos 0) short
    ∷ []

-- the base node with this number, from 1
abbrev pub base_node : ℕ → List ℤ
base_node k = slice_index_or base_nodes (k - 1) []

abbrev pub IsBaseNumber : ℕ → Type 0
IsBaseNumber k = (1 ≤ k) × (k ≤ 12)

-- two base nodes are neighbours where their inner product is positive
abbrev pub are_neighbours : ℕ → ℕ → Bool
are_neighbours a b = int_lt (pos 0) (inner (vector_of (base_node a)) (vector_of (base_node b)))

-- three numbers of base nodes, so turned that the triangle is seen from outside in counterclockwise order
abbrev pub turned : ℕ → ℕ → ℕ → List ℕ
turned a b c =
    if int_lt (pos 0) (det (vector_of (base_node a)) (vector_of (base_node b)) (vector_of (base_node c)))
    then a ∷ b ∷ c ∷ []
    else a ∷ c ∷ b ∷ []

abbrev pub if_triangle : ℕ → ℕ → ℕ → List (List ℕ)
if_triangle a b c = if are_neighbours a b && are_neighbours a c && are_neighbours b c then turned a b c ∷ [] else []

-- the base triangles: the triples a < b < c of base nodes that are all neighbours, in lexicographic order
abbrev pub base_triangles : List (List ℕ)
base_triangles =
    flat_map (λ a. flat_map (λ b. flat_map (λ c. if_triangle a b c) (range_with_len (b + 1) (12 - b))) (range_with_len (a + 1) (12 - a))) (range_with_len 1 12)
