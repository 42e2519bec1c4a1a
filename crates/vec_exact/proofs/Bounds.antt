-- How large products of triples are.
use Rattle.std.proofs.Common.{◌≡◌, ◌⊎◌, inl, inr, ℕ, ◌*◌, ◌<◌, ◌≤◌, ◌^◌, ℤ, ◌+ℤ◌, ◌-ℤ◌, ◌*ℤ◌, unsigned_abs, arith, lit≤, to_z, of_z}
use Rattle.std.proofs.lemmas.Int.{ints, unsigned_abs-mul}
use mir.Syntax.{w128}
use Rattle.vec_exact.specs.declared.Vec3.{Vec3}
use Rattle.vec_exact.specs.Vector.{inner, cross, det}
use Rattle.vec_exact.specs.Size.{Within, Is18, Is37, Is75, HasInner, HasCross}

pub times_at_most : (x y m n : ℕ) → x ≤ m → y ≤ n → x * y ≤ m * n
times_at_most x y m n p q = grind arith

pub product_at_most : (a b : ℤ) (m n : ℕ) → unsigned_abs a ≤ m → unsigned_abs b ≤ n → unsigned_abs (a *ℤ b) ≤ m * n
product_at_most a b m n p q = omega (arith, unsigned_abs-mul a b, times_at_most (unsigned_abs a) (unsigned_abs b) m n p q)

-- one component of a cross product
pub minor_at_most : (a b c d : ℤ) (m n k : ℕ) → unsigned_abs a ≤ m → unsigned_abs b ≤ m → unsigned_abs c ≤ n → unsigned_abs d ≤ n → 2 * (m * n) ≤ k → unsigned_abs (a *ℤ d -ℤ b *ℤ c) ≤ k
minor_at_most a b c d m n k p q r s l = omega (arith, ints, product_at_most a d m n p s, product_at_most b c m n q r)

pub cross_within : (a b : Vec3) (m n k : ℕ) → Within m a → Within n b → 2 * (m * n) ≤ k → Within k (cross a b)
cross_within a b m n k p q l = record {
  x = minor_at_most a.y a.z b.y b.z m n k p.y p.z q.y q.z l;
  y = minor_at_most a.z a.x b.z b.x m n k p.z p.x q.z q.x l;
  z = minor_at_most a.x a.y b.x b.y m n k p.x p.y q.x q.y l;
}

pub inner_at_most : (a b : Vec3) (m n k : ℕ) → Within m a → Within n b → 3 * (m * n) ≤ k → unsigned_abs (inner a b) ≤ k
inner_at_most a b m n k p q l = omega (arith, ints, product_at_most a.x b.x m n p.x q.x, product_at_most a.y b.y m n p.y q.y, product_at_most a.z b.z m n p.z q.z)

pub det_at_most : (a b c : Vec3) (l m n k : ℕ) → Within l a → Within m b → Within n c → 6 * (l * m * n) ≤ k → unsigned_abs (det a b c) ≤ k
det_at_most a b c l m n k p q r h =
    inner_at_most a (cross b c) l (2 * (m * n)) k p (cross_within b c m n (2 * (m * n)) q r (omega arith)) (grind arith)

pub det_below : (a b c : Vec3) → Within 268435456 a → Within 268435456 b → Within 268435456 c → unsigned_abs (det a b c) < 2 ^ 87
det_below a b c p q r = omega (arith, det_at_most a b c 268435456 268435456 268435456 116056878683004400771792896 p q r (lit≤ tt))

-- a smaller size is a size
pub wider : (m n : ℕ) (v : Vec3) → m ≤ n → Within m v → Within n v
wider m n v l w = record { x = omega (arith, w.x); y = omega (arith, w.y); z = omega (arith, w.z) }

pub is37_of_18 : (v : Vec3) → Is18 v → Is37 v
is37_of_18 v w = wider 262143 137438953471 v (lit≤ tt) w

pub is75_of_37 : (v : Vec3) → Is37 v → Is75 v
is75_of_37 v w = wider 137438953471 37778931862957161709567 v (lit≤ tt) w

-- the edge plane of two nodes, and the corner of two planes
pub cross_is37 : (a b : Vec3) → Is18 a → Is18 b → Is37 (cross a b)
cross_is37 a b p q = cross_within a b 262143 262143 137438953471 p q (lit≤ tt)

pub cross_is75 : (a b : Vec3) → Is37 a → Is37 b → Is75 (cross a b)
cross_is75 a b p q = cross_within a b 137438953471 137438953471 37778931862957161709567 p q (lit≤ tt)

-- what the sizes of `cross` and `dot` come to
pub both_37 : (a b : Vec3) → HasCross a b → Is37 a × Is37 b
both_37 a b (inl p) = (is37_of_18 a p.0, is37_of_18 b p.1)
both_37 a b (inr p) = p

at_most_37 : (v : Vec3) → Is18 v ⊎ Is37 v → Is37 v
at_most_37 v (inl p) = is37_of_18 v p
at_most_37 v (inr p) = p

one_and_other : (a b : Vec3) → HasInner a b → (Is37 a × Is75 b) ⊎ (Is75 a × Is37 b)
one_and_other a b (inl p) = p
one_and_other a b (inr p) = inl (at_most_37 a p.0, is75_of_37 b (at_most_37 b p.1))

-- each of the three products of an inner product is small
pub record HasSmallProducts (a b : Vec3) : Type 0 where
  pub x : unsigned_abs a.x * unsigned_abs b.x ≤ 137438953471 * 37778931862957161709567
  pub y : unsigned_abs a.y * unsigned_abs b.y ≤ 137438953471 * 37778931862957161709567
  pub z : unsigned_abs a.z * unsigned_abs b.z ≤ 137438953471 * 37778931862957161709567

either_way : (x y : ℕ) → (x ≤ 137438953471 × y ≤ 37778931862957161709567) ⊎ (x ≤ 37778931862957161709567 × y ≤ 137438953471) → x * y ≤ 137438953471 * 37778931862957161709567
either_way x y (inl p) = times_at_most x y 137438953471 37778931862957161709567 p.0 p.1
either_way x y (inr p) = omega (arith, times_at_most x y 37778931862957161709567 137438953471 p.0 p.1)

products : (a b : Vec3) → (Is37 a × Is75 b) ⊎ (Is75 a × Is37 b) → HasSmallProducts a b
products a b (inl p) = record {
  x = either_way (unsigned_abs a.x) (unsigned_abs b.x) (inl (p.0.x, p.1.x));
  y = either_way (unsigned_abs a.y) (unsigned_abs b.y) (inl (p.0.y, p.1.y));
  z = either_way (unsigned_abs a.z) (unsigned_abs b.z) (inl (p.0.z, p.1.z));
}
products a b (inr p) = record {
  x = either_way (unsigned_abs a.x) (unsigned_abs b.x) (inr (p.0.x, p.1.x));
  y = either_way (unsigned_abs a.y) (unsigned_abs b.y) (inr (p.0.y, p.1.y));
  z = either_way (unsigned_abs a.z) (unsigned_abs b.z) (inr (p.0.z, p.1.z));
}

pub small_products : (a b : Vec3) → HasInner a b → HasSmallProducts a b
small_products a b h = products a b (one_and_other a b h)

pub inner_below : (a b : Vec3) → HasInner a b → unsigned_abs (inner a b) < 2 ^ 114
inner_below a b h = below a b (small_products a b h)
  where
    below : (a b : Vec3) → HasSmallProducts a b → unsigned_abs (inner a b) < 2 ^ 114
    below a b s = omega (arith, ints, unsigned_abs-mul a.x b.x, unsigned_abs-mul a.y b.y, unsigned_abs-mul a.z b.z, s.x, s.y, s.z)

-- a sum of three numbers that is written and read at each step
pub read_three : (r s t : ℤ) → unsigned_abs r < 2 ^ 115 → unsigned_abs s < 2 ^ 115 → unsigned_abs t < 2 ^ 115
    → to_z w128 (of_z w128 (to_z w128 (of_z w128 (to_z w128 (of_z w128 r) +ℤ to_z w128 (of_z w128 s))) +ℤ to_z w128 (of_z w128 t))) ≡ r +ℤ s +ℤ t
read_three r s t p q u = omega (arith, ints)
