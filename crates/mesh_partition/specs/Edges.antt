-- The directed edges of the faces of a mesh. Source: our own.
use Rattle.std.specs.Prelude.{◌≡◌, ◌≢◌, ℕ, ◌+◌, ℤ, pos, List, [], ◌∷◌, length, map, AllPairs, Contains, ◌↔◌, slice_index_or}
use Rattle.std.specs.List.{flat_map, range_with_len}
use Rattle.vec_exact.specs.declared.RawMesh.{RawMesh}
use Rattle.vec_exact.specs.Cycle.{after}
use Rattle.mesh_check.specs.Mesh.{face_of, node_at}

abbrev pub component : List ℤ → ℕ → ℤ
component numbers t = slice_index_or numbers t (pos 0)

-- the edge from one node to another: the three components of the first, and then those of the second. So two nodes with one triple count as one
abbrev pub edge_between : List ℤ → List ℤ → List ℤ
edge_between from to = component from 0 ∷ component from 1 ∷ component from 2 ∷ component to 0 ∷ component to 1 ∷ component to 2 ∷ []

-- the same edge in the other direction
abbrev pub reverse_edge : List ℤ → List ℤ
reverse_edge e = component e 3 ∷ component e 4 ∷ component e 5 ∷ component e 0 ∷ component e 1 ∷ component e 2 ∷ []

-- the edge at place t of a face, from 0: from its node there to the next one
abbrev pub edge_at : RawMesh → ℕ → ℕ → List ℤ
edge_at mesh face t = edge_between (node_at mesh face (t + 1)) (node_at mesh face (after (length (face_of mesh face)) t + 1))

-- the edges of a face in order
abbrev pub edges_of_face : RawMesh → ℕ → List (List ℤ)
edges_of_face mesh face = map (edge_at mesh face) (range_with_len 0 (length (face_of mesh face)))

-- all directed edges, each as often as there are faces that have it
unfoldable pub edges_of : RawMesh → List (List ℤ)
edges_of mesh = flat_map (λ i. edges_of_face mesh (i + 1)) (range_with_len 0 (length mesh.faces))

-- some face has this directed edge
abbrev pub IsEdge : RawMesh → List ℤ → Type 0
IsEdge mesh e = Contains (edges_of mesh) e

-- some face has this directed edge, and none has its reverse
pub record IsUnpaired (mesh : RawMesh) (e : List ℤ) : Type 0 where
  pub edge : IsEdge mesh e
  pub alone : ¬ IsEdge mesh (reverse_edge e)

-- the list has exactly the edges with P, each once
pub record ListsEdges (P : List ℤ → Type 0) (edges : List (List ℤ)) : Type 0 where
  pub different : AllPairs (λ e f. e ≢ f) edges
  pub members : (e : List ℤ) → Contains edges e ↔ P e

-- there are n different edges with P
abbrev pub IsEdgeCount : (List ℤ → Type 0) → ℕ → Type 0
IsEdgeCount P n = (edges : List (List ℤ)) × ListsEdges P edges × (length edges ≡ n)
