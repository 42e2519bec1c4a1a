-- Triples of terms, by which `ring` proves equations of triples.
use Rattle.std.proofs.Common.{◌≡◌, ℕ, zero, suc, ℤ, pos, List, [], ◌∷◌}
use Rattle.vec_exact.specs.declared.Vec3.{Vec3}
use Rattle.vec_exact.proofs.Ring.{Term, var, num, plus, minus, mul}

pub vec_eq : (a b : Vec3) → a.x ≡ b.x → a.y ≡ b.y → a.z ≡ b.z → a ≡ b
vec_eq a b p q r = λ i. record { x = p i; y = q i; z = r i }

pub record Terms : Type 0 where
  pub x : Term
  pub y : Term
  pub z : Term

abbrev pub less : Term → Term → Term
less a b = plus a (minus b)

abbrev pub inner_t : Terms → Terms → Term
inner_t a b = plus (plus (mul a.x b.x) (mul a.y b.y)) (mul a.z b.z)

abbrev pub cross_t : Terms → Terms → Terms
cross_t a b = record { x = less (mul a.y b.z) (mul a.z b.y); y = less (mul a.z b.x) (mul a.x b.z); z = less (mul a.x b.y) (mul a.y b.x) }

abbrev pub det_t : Terms → Terms → Terms → Term
det_t a b c = inner_t a (cross_t b c)

abbrev pub scaled_t : Term → Terms → Terms
scaled_t k a = record { x = mul k a.x; y = mul k a.y; z = mul k a.z }

abbrev pub added_t : Terms → Terms → Terms
added_t a b = record { x = plus a.x b.x; y = plus a.y b.y; z = plus a.z b.z }

abbrev pub zero_t : Terms
zero_t = record { x = num (pos 0); y = num (pos 0); z = num (pos 0) }

abbrev pub terms : ℕ → ℕ → Terms
terms i zero = record { x = var i; y = var (suc i); z = var (suc (suc i)) }
terms i (suc n) = terms (suc (suc (suc i))) n

-- the k-th triple of variables: variables 3 k, 3 k + 1 and 3 k + 2
abbrev pub v : ℕ → Terms
v k = terms 0 k

-- the values of the variables, where the k-th triple of them is the k-th of the list
abbrev pub look : List Vec3 → ℕ → ℤ
look [] i = pos 0
look (a ∷ rest) zero = a.x
look (a ∷ rest) (suc zero) = a.y
look (a ∷ rest) (suc (suc zero)) = a.z
look (a ∷ rest) (suc (suc (suc i))) = look rest i

-- a number in the place of a triple: the first of its three variables
abbrev pub number : ℤ → Vec3
number k = record { x = k; y = pos 0; z = pos 0 }
