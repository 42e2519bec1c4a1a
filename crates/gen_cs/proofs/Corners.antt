-- At which places the corners of a panel stand among the nodes.
use Rattle.std.proofs.Common.{◌≡◌, ◌-◌, ◌≤◌, ℕ, ℤ, pos, neg_ℤ, [], ◌∷◌, refl, arith}
use Rattle.std.proofs.lemmas.Int.{ints}
use Rattle.vec_exact.specs.declared.panels.Panel.TheVariants.{PlusX, PlusY, MinusX, MinusY, PlusZ, MinusZ}
use Rattle.gen_cs.specs.CubedSphere.{coordinate, corner, node_at}

at_last : (n : ℕ) → pos n ≡ coordinate n n
at_last n = omega (arith, ints)

at_first : (n : ℕ) → neg_ℤ (pos n) ≡ coordinate n 0
at_first n = omega (arith, ints)

-- the coordinate with the other sign stands as far from the other end
turned : (n i : ℕ) → i ≤ n → neg_ℤ (coordinate n i) ≡ coordinate n (n - i)
turned n i le = omega (arith, ints, le)

these : (x y z x' y' z' : ℤ) → x ≡ x' → y ≡ y' → z ≡ z' → x ∷ y ∷ z ∷ [] ≡ x' ∷ y' ∷ z' ∷ []
these x y z x' y' z' e f g = rw (e, f, g) refl

pub corner_plus_x : (n i j : ℕ) → corner n PlusX i j ≡ node_at n n i j
corner_plus_x n i j = these _ _ _ _ _ _ (at_last n) refl refl

pub corner_plus_y : (n i j : ℕ) → i ≤ n → corner n PlusY i j ≡ node_at n (n - i) n j
corner_plus_y n i j i_le = these _ _ _ _ _ _ (turned n i i_le) (at_last n) refl

pub corner_minus_x : (n i j : ℕ) → i ≤ n → corner n MinusX i j ≡ node_at n 0 (n - i) j
corner_minus_x n i j i_le = these _ _ _ _ _ _ (at_first n) (turned n i i_le) refl

pub corner_minus_y : (n i j : ℕ) → corner n MinusY i j ≡ node_at n i 0 j
corner_minus_y n i j = these _ _ _ _ _ _ refl (at_first n) refl

pub corner_plus_z : (n i j : ℕ) → j ≤ n → corner n PlusZ i j ≡ node_at n (n - j) i n
corner_plus_z n i j j_le = these _ _ _ _ _ _ (turned n j j_le) refl (at_last n)

pub corner_minus_z : (n i j : ℕ) → corner n MinusZ i j ≡ node_at n j i 0
corner_minus_z n i j = these _ _ _ _ _ _ refl refl (at_first n)
