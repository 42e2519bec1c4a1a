-- Cycles of triples: the nodes of a face, the planes of a ring or of a cell.
use Rattle.std.specs.Prelude.{◌≢◌, ℕ, suc, ◌+◌, ◌-◌, ◌<◌, ◌≤◌, pos, ◌<ℤ◌, nat_eq, nat_lt, if◌then◌else◌, List, length, slice_index_or}
use Rattle.vec_exact.specs.declared.Vec3.{Vec3}
use Rattle.vec_exact.specs.Vector.{zero_triple, inner, cross}

-- the place after t in a cycle of k places, which count from 0
unfoldable pub after : ℕ → ℕ → ℕ
after k t = if nat_eq (suc t) k then 0 else suc t

-- the place j places after t, for a j up to k
unfoldable pub shifted : ℕ → ℕ → ℕ → ℕ
shifted k j t = if nat_lt (t + j) k then t + j else (t + j - k)

-- the plane of the edge from node t to the next one in a cycle of k nodes
abbrev pub edge_plane : ℕ → (ℕ → Vec3) → ℕ → Vec3
edge_plane k v t = cross (v t) (v (after k t))

-- corner t of a cycle of k planes, where plane t meets the next one
unfoldable pub corner : ℕ → (ℕ → Vec3) → ℕ → Vec3
corner k n t = cross (n t) (n (after k t))

-- the cycle has at least three members, and each corner is strictly positive on each of them but its own two
pub record Convex (k : ℕ) (n : ℕ → Vec3) : Type 0 where
  pub three : 3 ≤ k
  pub strict : (t s : ℕ) → t < k → s < k → s ≢ t → s ≢ after k t → pos 0 <ℤ inner (n s) (corner k n t)

-- the triple at place t of a list, counted from 0
abbrev pub vector_at : List Vec3 → ℕ → Vec3
vector_at l t = slice_index_or l t zero_triple

-- the plane of edge t of a face, which is given by its nodes in order
abbrev pub face_plane : List Vec3 → ℕ → Vec3
face_plane f t = edge_plane (length f) (vector_at f) t
