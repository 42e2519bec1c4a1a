-- What the code asks of planes and numbers before it computes with them.
use Rattle.std.specs.Prelude.{◌≡◌, ℕ, ◌<◌, ◌≤◌, ℤ, pos, List, length, slice_index, slice_index_or}
use Rattle.vec_exact.specs.declared.Vec3.{Vec3}
use Rattle.vec_exact.specs.Vector.{inner}
use Rattle.vec_exact.specs.Side.{sign_of}
use Rattle.vec_exact.specs.Size.{Is37}
use Rattle.vec_exact.specs.Cycle.{corner}
use Rattle.cone_laws.specs.Ring.{listed}

-- each number of l names a plane that is Is37
pub record IsUsable (ps : List Vec3) (l : List ℕ) : Type 0 where
  pub least : (t : ℕ) → t < length l → 1 ≤ slice_index l t
  pub greatest : (t : ℕ) → t < length l → slice_index l t ≤ length ps
  pub small : (t : ℕ) → t < length l → Is37 (listed ps l t)

-- the inner product of n and the corner at place t of l
abbrev pub side_at : List Vec3 → List ℕ → Vec3 → ℕ → ℤ
side_at ps l n t = inner n (corner (length l) (listed ps l) t)

-- the numbers s have the signs of the inner products of n and the corners of l, in order
pub record HaveSigns (ps : List Vec3) (l : List ℕ) (n : Vec3) (s : List ℤ) : Type 0 where
  pub len : length s ≡ length l
  pub each : (t : ℕ) → t < length l → sign_of (slice_index_or s t (pos 0)) ≡ sign_of (side_at ps l n t)
