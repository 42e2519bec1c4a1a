-- The cone of a cycle of planes: its directions, and what its corners generate. Source: our own.
use Rattle.std.specs.Prelude.{◌≡◌, ℕ, zero, suc, ◌<◌, ℤ, pos, ◌≤ℤ◌, ◌<ℤ◌}
use Rattle.vec_exact.specs.declared.Vec3.{Vec3}
use Rattle.vec_exact.specs.Vector.{zero_triple, inner, scaled, added}
use Rattle.vec_exact.specs.Cycle.{corner}

-- none of the k planes is negative on d
abbrev pub NoneNegative : ℕ → (ℕ → Vec3) → Vec3 → Type 0
NoneNegative k n d = (s : ℕ) → s < k → pos 0 ≤ℤ inner (n s) d

-- each of the k planes is positive on d
abbrev pub AllPositive : ℕ → (ℕ → Vec3) → Vec3 → Type 0
AllPositive k n d = (s : ℕ) → s < k → pos 0 <ℤ inner (n s) d

-- the sum of the first j triples of c, the one at place t taken w t times
abbrev pub combination : (ℕ → Vec3) → (ℕ → ℕ) → ℕ → Vec3
combination c w zero = zero_triple
combination c w (suc j) = added (combination c w j) (scaled (pos (w j)) (c j))

-- a positive multiple of d is a sum of the corners of the k planes, each with a whole factor of 0 or more
abbrev pub IsGenerated : ℕ → (ℕ → Vec3) → Vec3 → Type 0
IsGenerated k n d = (m : ℕ) × (w : ℕ → ℕ) × (0 < m) × (scaled (pos m) d ≡ combination (corner k n) w k)

-- x is a sum of p and r, each with a positive factor
abbrev pub IsBetween : Vec3 → Vec3 → Vec3 → Type 0
IsBetween x p r = (a : ℤ) × (b : ℤ) × (pos 0 <ℤ a) × (pos 0 <ℤ b) × (x ≡ added (scaled a p) (scaled b r))
