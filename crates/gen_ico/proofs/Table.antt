-- The table of base triangles is the list of the definition.
use Rattle.std.proofs.Common.{◌≡◌, ◌≤◌, ◌-◌, ℕ, zero, suc, ℤ, pos, List, [], ◌∷◌, refl, unsigned_abs, slice_index_or, arith, rules, All}
use Rattle.std.proofs.lemmas.List.Elements.{All-from_recursion}
use Rattle.std.proofs.lemmas.Int.{ints}
use Rattle.std.specs.List.{AllByRecursion}
use Rattle.gen_ico.specs.Icosahedron.{base_nodes, base_triangles, IsBaseNumber}
use Rattle.gen_ico.specs.Icosahedral.{corner_component}

abbrev three : ℕ → ℕ → ℕ → List ℕ
three a b c = a ∷ b ∷ c ∷ []

pub table : base_triangles ≡ three 1 3 2 ∷ three 1 2 4 ∷ three 1 5 3 ∷ three 1 4 7 ∷ three 1 7 5 ∷ three 2 3 6 ∷ three 2 8 4 ∷ three 2 6 8 ∷ three 3 5 9 ∷ three 3 9 6 ∷ three 4 10 7 ∷ three 4 8 10 ∷ three 5 7 11 ∷ three 5 11 9 ∷ three 6 12 8 ∷ three 6 9 12 ∷ three 7 10 11 ∷ three 8 12 10 ∷ three 9 11 12 ∷ three 10 12 11 ∷ []
table = refl

-- no coordinate of a base node is above 131,072 in size
small_node : (node : List ℤ) (k : ℕ) → AllByRecursion (λ x. unsigned_abs x ≤ 131072) node → unsigned_abs (slice_index_or node k (pos 0)) ≤ 131072
small_node [] k h = omega (arith, ints)
small_node (x ∷ xs) zero h = h.0
small_node (x ∷ xs) (suc k) h = small_node xs k h.1

small_nodes : (nodes : List (List ℤ)) (i k : ℕ) → AllByRecursion (λ node. AllByRecursion (λ x. unsigned_abs x ≤ 131072) node) nodes → unsigned_abs (slice_index_or (slice_index_or nodes i []) k (pos 0)) ≤ 131072
small_nodes [] i k h = omega (arith, ints)
small_nodes (x ∷ xs) zero k h = small_node x k h.0
small_nodes (x ∷ xs) (suc i) k h = small_nodes xs i k h.1

pub small_component : (triangle : List ℕ) (s k : ℕ) → unsigned_abs (corner_component triangle s k) ≤ 131072
small_component triangle s k = small_nodes base_nodes (slice_index_or triangle s 0 - 1) k (search rules)

-- every number of the table is that of a base node
are_base_numbers : (triangles : List (List ℕ)) (s : ℕ) → AllByRecursion (λ triangle. AllByRecursion IsBaseNumber triangle) triangles → AllByRecursion IsBaseNumber (slice_index_or triangles s [])
are_base_numbers [] s h = tt
are_base_numbers (x ∷ xs) zero h = h.0
are_base_numbers (x ∷ xs) (suc s) h = are_base_numbers xs s h.1

pub base_numbers : (s : ℕ) → All IsBaseNumber (slice_index_or base_triangles s [])
base_numbers s = All-from_recursion IsBaseNumber (slice_index_or base_triangles s []) (are_base_numbers base_triangles s (search rules))
