-- The sizes of triples with which 128 bits are enough.
use Rattle.std.specs.Prelude.{ℕ, ◌≤◌, ◌⊎◌, unsigned_abs}
use Rattle.vec_exact.specs.declared.Vec3.{Vec3}
use Rattle.vec_exact.specs.declared.limits.TheConstants.{MAX_COORDINATE}

-- each component is at most m in size
pub record Within (m : ℕ) (v : Vec3) : Type 0 where
  pub x : unsigned_abs v.x ≤ m
  pub y : unsigned_abs v.y ≤ m
  pub z : unsigned_abs v.z ≤ m

-- a node: each component is at most 262,143 in size, which is 2^18 - 1
abbrev pub Is18 : Vec3 → Type 0
Is18 v = Within MAX_COORDINATE v

-- a plane: each component is below 2^37 in size
abbrev pub Is37 : Vec3 → Type 0
Is37 v = Within 137438953471 v

-- a corner: each component is below 2^75 in size
abbrev pub Is75 : Vec3 → Type 0
Is75 v = Within 37778931862957161709567 v

-- the inner product of a and b needs at most 128 bits: one of them is Is37 and the other Is75, or each is Is18 or Is37
abbrev pub HasInner : Vec3 → Vec3 → Type 0
HasInner a b = ((Is37 a × Is75 b) ⊎ (Is75 a × Is37 b)) ⊎ ((Is18 a ⊎ Is37 a) × (Is18 b ⊎ Is37 b))

-- the cross product of a and b needs at most 128 bits: both are Is18, or both are Is37
abbrev pub HasCross : Vec3 → Vec3 → Type 0
HasCross a b = (Is18 a × Is18 b) ⊎ (Is37 a × Is37 b)
