-- The first planes of a list: what is asked of them, and whether they have a direction in common.
use Rattle.std.specs.Prelude.{◌≡◌, ◌≢◌, ℕ, ◌<◌, ◌≤◌, pos, ◌<ℤ◌, List, length, take, slice_index}
use Rattle.vec_exact.specs.declared.RawMesh.{RawMesh}
use Rattle.vec_exact.specs.declared.Vec3.{Vec3}
use Rattle.vec_exact.specs.Vector.{zero_triple, inner}
use Rattle.vec_exact.specs.Size.{Is37}
use Rattle.vec_exact.specs.Face.{IsAcceptedFace}
use Rattle.cone_laws.specs.Ring.{plane, face_planes}

-- some direction is positive on each of the first m planes
abbrev pub HasInside : List Vec3 → ℕ → Type 0
HasInside ps m = (d : Vec3) × ((i : ℕ) → 1 ≤ i → i ≤ m → pos 0 <ℤ inner (plane ps i) d)

-- each of the first m planes is Is37
abbrev pub EachIs37 : List Vec3 → ℕ → Type 0
EachIs37 ps m = (i : ℕ) → 1 ≤ i → i ≤ m → Is37 (plane ps i)

-- none of the first m planes is the zero triple
abbrev pub NoneIsZero : List Vec3 → ℕ → Type 0
NoneIsZero ps m = (i : ℕ) → 1 ≤ i → i ≤ m → plane ps i ≢ zero_triple

-- the first m planes are, in order, the edge planes of the accepted face with these nodes
pub record AreEdgesOf (f : List Vec3) (ps : List Vec3) (m : ℕ) : Type 0 where
  pub accepted : IsAcceptedFace f
  pub size : length f ≡ m
  pub planes : take m ps ≡ face_planes f

-- each number of l is from 1 to the number of planes
pub record AreNumbers (ps : List Vec3) (l : List ℕ) : Type 0 where
  pub least : (t : ℕ) → t < length l → 1 ≤ slice_index l t
  pub greatest : (t : ℕ) → t < length l → slice_index l t ≤ length ps

-- i is the number of a face of the mesh
abbrev pub IsFaceNumber : RawMesh → ℕ → Type 0
IsFaceNumber mesh i = (1 ≤ i) × (i ≤ length mesh.faces)
