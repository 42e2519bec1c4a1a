-- Rings of edge planes. Source: our own.
use Rattle.std.specs.Prelude.{◌≡◌, ◌≢◌, ℕ, ◌-◌, ◌<◌, ◌≤◌, pos, ◌≤ℤ◌, List, length, map, ◌++◌, slice_index, slice_index_or}
use Rattle.std.specs.List.{range_with_len}
use Rattle.vec_exact.specs.declared.Vec3.{Vec3}
use Rattle.vec_exact.specs.Vector.{zero_triple, inner}
use Rattle.vec_exact.specs.Side.{SameDirection}
use Rattle.vec_exact.specs.Cycle.{corner, Convex, face_plane}

-- the edge planes of a face, in order
unfoldable pub face_planes : List Vec3 → List Vec3
face_planes f = map (face_plane f) (range_with_len 0 (length f))

-- the edge planes of the first face in order, followed by those of the second
unfoldable pub planes_of_pair : List Vec3 → List Vec3 → List Vec3
planes_of_pair f g = face_planes f ++ face_planes g

-- the plane with number i, counted from 1
abbrev pub plane : List Vec3 → ℕ → Vec3
plane ps i = slice_index_or ps (i - 1) zero_triple

-- the k numbers g, by place, name planes among the first m of p, and keep the first four parts of a ring
pub record IsCycle (p : ℕ → Vec3) (m : ℕ) (k : ℕ) (g : ℕ → ℕ) : Type 0 where
  pub least_number : (t : ℕ) → t < k → 1 ≤ g t
  pub greatest_number : (t : ℕ) → t < k → g t ≤ m
  -- 1. no two of the numbers are equal (that they are at least three stands in `Convex`)
  pub different : (t s : ℕ) → t < k → s < k → g t ≡ g s → t ≡ s
  -- 2. the corner of each listed plane and the next is strictly positive on each listed plane, its own two excepted
  pub convex : Convex k (λ t. p (g t))
  -- 3. no plane is negative on any corner
  pub covered : (i t : ℕ) → 1 ≤ i → i ≤ m → t < k → pos 0 ≤ℤ inner (p i) (corner k (λ u. p (g u)) t)
  -- 4. where a listed plane and another plane have the same direction, the listed one has the smaller number
  pub earliest : (t i : ℕ) → t < k → 1 ≤ i → i ≤ m → i ≢ g t → SameDirection (p (g t)) (p i) → g t < i

-- the list of numbers l is the ring of the first m planes of ps
pub record IsRingOfFirst (ps : List Vec3) (m : ℕ) (l : List ℕ) : Type 0 where
  pub cycle : IsCycle (plane ps) m (length l) (slice_index l)
  -- 5. the list begins with its least number
  pub least_first : (t : ℕ) → t < length l → slice_index l 0 ≤ slice_index l t

-- the list of numbers l is the ring of two faces
abbrev pub IsRing : List Vec3 → List Vec3 → List ℕ → Type 0
IsRing f g l = IsRingOfFirst (planes_of_pair f g) (length (planes_of_pair f g)) l

-- the plane at place t of those that l lists
abbrev pub listed : List Vec3 → List ℕ → ℕ → Vec3
listed ps l t = plane ps (slice_index l t)
