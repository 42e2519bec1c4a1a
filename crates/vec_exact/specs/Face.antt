-- Accepted faces.
use Rattle.std.specs.Prelude.{◌≢◌, ℕ, ◌-◌, ◌<◌, ◌≤◌, ℤ, pos, ◌≤ℤ◌, ◌<ℤ◌, unsigned_abs, List, [], length, map, All, slice_index_or}
use Rattle.vec_exact.specs.declared.Vec3.{Vec3}
use Rattle.vec_exact.specs.Vector.{zero_triple, det}
use Rattle.vec_exact.specs.Size.{Is18}
use Rattle.vec_exact.specs.Cycle.{after, vector_at}

-- three numbers as a triple
abbrev pub vector_of : List ℤ → Vec3
vector_of numbers = record { x = slice_index_or numbers 0 (pos 0); y = slice_index_or numbers 1 (pos 0); z = slice_index_or numbers 2 (pos 0) }

-- j is the number of one of the nodes, which count from 1
abbrev pub IsNodeNumber : List (List ℤ) → ℤ → Type 0
IsNodeNumber nodes j = (pos 1 ≤ℤ j) × (j ≤ℤ pos (length nodes))

-- the node with number j
abbrev pub node_of : List (List ℤ) → ℤ → Vec3
node_of nodes j = vector_of (slice_index_or nodes (unsigned_abs j - 1) [])

-- the nodes of a face, which is given by their numbers
abbrev pub face_nodes : List (List ℤ) → List ℤ → List Vec3
face_nodes nodes face = map (node_of nodes) face

-- a node is not the zero triple, and each of its components is at most 262,143 in size
pub record IsAcceptedNode (v : Vec3) : Type 0 where
  pub nonzero : v ≢ zero_triple
  pub small : Is18 v

-- a face, given by its nodes in order, passes the test of acceptance
pub record IsAcceptedFace (f : List Vec3) : Type 0 where
  -- 1. it has 3 to 16 nodes
  pub least_size : 3 ≤ length f
  pub greatest_size : length f ≤ 16
  -- 2. none of its nodes is the zero triple, and none is too large
  pub nodes : All IsAcceptedNode f
  -- 3. det(v_t, v_(t+1), v_s) is positive for each edge from v_t to v_(t+1) and each other place s
  pub turns : (t s : ℕ) → t < length f → s < length f → s ≢ t → s ≢ after (length f) t
      → pos 0 <ℤ det (vector_at f t) (vector_at f (after (length f) t)) (vector_at f s)

-- a face, given by the numbers of its nodes, is accepted over a list of nodes
pub record IsAccepted (nodes : List (List ℤ)) (face : List ℤ) : Type 0 where
  -- each of its numbers names a node
  pub in_range : All (IsNodeNumber nodes) face
  pub accepted : IsAcceptedFace (face_nodes nodes face)
