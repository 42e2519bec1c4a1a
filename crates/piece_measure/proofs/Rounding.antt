-- Where rounded quotients lie.
use Rattle.std.proofs.Common.{◌≡◌, ◌≢◌, ◌⊎◌, inl, inr, ℕ, ◌*◌, ◌+◌, ◌<◌, ◌≤◌, max, [], ◌∷◌, ℤ, pos, negsuc, ◌*ℤ◌, unsigned_abs, arith}
use Rattle.std.proofs.lemmas.Nat.{div_below, le-div}
use Rattle.std.proofs.lemmas.Int.{ints, unsigned_abs-mul}
use Rattle.vec_exact.specs.declared.Vec3.{Vec3}
use Rattle.vec_exact.specs.Vector.{zero_triple}
use Rattle.vec_exact.proofs.Terms.{vec_eq}
use Rattle.vec_exact.specs.Rounding.{nearest, rounded}
use Rattle.piece_measure.specs.Grid.{component_size, grid_corner_of}

-- a quotient that is at most g is at most g when rounded
nearest_at_most : (n d g : ℕ) → 0 < d → n ≤ d * g → nearest n d ≤ g
nearest_at_most n d g p q =
    let room : 2 * n + d < (g + 1) * (2 * d) = grind (arith, q) in
    let below : nearest n d < g + 1 = div_below (2 * n + d) (2 * d) (g + 1) (omega arith) room in
    omega (arith, below)

-- a whole quotient stays as it is when rounded
nearest_whole : (n d g : ℕ) → 0 < d → n ≡ d * g → nearest n d ≡ g
nearest_whole n d g p e =
    let above : g ≤ nearest n d = le-div g (2 * n + d) (2 * d) (omega arith) (grind (arith, e)) in
    omega (arith, above, nearest_at_most n d g p (omega arith))

rounded_size : (z : ℤ) (d : ℕ) → unsigned_abs (rounded z d) ≡ nearest (unsigned_abs z) d
rounded_size (pos n) d = omega (arith, ints)
rounded_size (negsuc n) d = omega (arith, ints)

-- a component that is at most d in size is at most 2^28 in size on the grid
pub on_grid_at_most : (x : ℤ) (d : ℕ) → 0 < d → unsigned_abs x ≤ d → unsigned_abs (rounded (x *ℤ pos 268435456) d) ≤ 268435456
on_grid_at_most x d p q =
    let times = unsigned_abs-mul x (pos 268435456) in
    let below = nearest_at_most (unsigned_abs (x *ℤ pos 268435456)) d 268435456 p (omega (arith, times, q)) in
    omega (arith, rounded_size (x *ℤ pos 268435456) d, below)

-- the component that is d in size is 2^28 in size on the grid
on_grid_whole : (x : ℤ) (d : ℕ) → 0 < d → unsigned_abs x ≡ d → unsigned_abs (rounded (x *ℤ pos 268435456) d) ≡ 268435456
on_grid_whole x d p e =
    let times = unsigned_abs-mul x (pos 268435456) in
    let whole = nearest_whole (unsigned_abs (x *ℤ pos 268435456)) d 268435456 p (omega (arith, times, e)) in
    omega (arith, rounded_size (x *ℤ pos 268435456) d, whole)

pub grid_corner_is : (c : Vec3) (a b d : ℤ) (m : ℕ) → m ≡ component_size c
    → a ≡ rounded (c.x *ℤ pos 268435456) m → b ≡ rounded (c.y *ℤ pos 268435456) m → d ≡ rounded (c.z *ℤ pos 268435456) m
    → a ∷ b ∷ d ∷ [] ≡ grid_corner_of c
unfolding grid_corner_of
grid_corner_is c a b d m e p q r = cc

greatest_reached : (x y z a b d m g : ℕ) → m ≡ max (max x y) z → (x ≡ m → a ≡ g) → (y ≡ m → b ≡ g) → (z ≡ m → d ≡ g)
    → a ≤ g → b ≤ g → d ≤ g → max (max a b) d ≡ g
greatest_reached x y z a b d m g e p q r at_a at_b at_d = grind arith

zero_or_positive : (n : ℕ) → (n ≡ 0) ⊎ (0 < n)
zero_or_positive n = grind arith

-- one component of a grid corner is 2^28 in size
pub grid_reached : (c : Vec3) (a b d : ℤ) (m : ℕ) → 0 < m → m ≡ component_size c
    → a ≡ rounded (c.x *ℤ pos 268435456) m → b ≡ rounded (c.y *ℤ pos 268435456) m → d ≡ rounded (c.z *ℤ pos 268435456) m
    → max (max (unsigned_abs a) (unsigned_abs b)) (unsigned_abs d) ≡ 268435456
grid_reached c a b d m l e p q r =
    let x : unsigned_abs c.x ≡ m → unsigned_abs a ≡ 268435456 = λ h. rw p (on_grid_whole c.x m l h) in
    let y : unsigned_abs c.y ≡ m → unsigned_abs b ≡ 268435456 = λ h. rw q (on_grid_whole c.y m l h) in
    let z : unsigned_abs c.z ≡ m → unsigned_abs d ≡ 268435456 = λ h. rw r (on_grid_whole c.z m l h) in
    let at_x : unsigned_abs a ≤ 268435456 = rw p (on_grid_at_most c.x m l (omega arith)) in
    let at_y : unsigned_abs b ≤ 268435456 = rw q (on_grid_at_most c.y m l (omega arith)) in
    let at_z : unsigned_abs d ≤ 268435456 = rw r (on_grid_at_most c.z m l (omega arith)) in
    greatest_reached (unsigned_abs c.x) (unsigned_abs c.y) (unsigned_abs c.z) (unsigned_abs a) (unsigned_abs b) (unsigned_abs d) m 268435456 e x y z at_x at_y at_z

-- a triple that is not zero has a size
pub size_positive : (c : Vec3) → c ≢ zero_triple → 0 < component_size c
size_positive c h =
    elim (zero_or_positive (component_size c)) [
      | inl e ↦ absurd (h (vec_eq c zero_triple (omega (arith, ints, e)) (omega (arith, ints, e)) (omega (arith, ints, e))))
      | inr p ↦ p
    ]
