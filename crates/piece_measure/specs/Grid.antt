-- Corners brought to a fixed size. Source: our own.
use Rattle.std.specs.Prelude.{◌≡◌, ◌<◌, ℕ, ℤ, pos, ◌*ℤ◌, unsigned_abs, max, List, [], ◌∷◌, map}
use Rattle.std.specs.List.{range_with_len}
use Rattle.vec_exact.specs.declared.Vec3.{Vec3}
use Rattle.vec_exact.specs.Vector.{scaled}
use Rattle.vec_exact.specs.Size.{Within}
use Rattle.vec_exact.specs.Face.{vector_of}
use Rattle.vec_exact.specs.Cycle.{corner}
use Rattle.vec_exact.specs.Rounding.{rounded}

-- the greatest size of a component
abbrev pub component_size : Vec3 → ℕ
component_size c = max (max (unsigned_abs c.x) (unsigned_abs c.y)) (unsigned_abs c.z)

-- three numbers that are on the grid: none of them is above 2^28 in size
abbrev pub IsOnGrid : List ℤ → Type 0
IsOnGrid numbers = Within 268435456 (vector_of numbers)

-- c with its greatest component brought to 2^28 in size, in whole numbers
unfoldable pub grid_corner_of : Vec3 → List ℤ
grid_corner_of c = let on_grid = (λ (x : ℤ). rounded (x *ℤ pos 268435456) (component_size c)) in
    on_grid c.x ∷ on_grid c.y ∷ on_grid c.z ∷ []

-- a positive multiple has the same corner on the grid
abbrev pub SameForMultiples : Type 0
SameForMultiples = (c : Vec3) (k : ℕ) → 0 < k → grid_corner_of (scaled (pos k) c) ≡ grid_corner_of c

-- the grid corners of a cycle of k planes, in order
unfoldable pub grid_corners_of : ℕ → (ℕ → Vec3) → List (List ℤ)
grid_corners_of k n = map (λ (t : ℕ). grid_corner_of (corner k n t)) (range_with_len 0 k)
