-- The planes of the six faces of the smallest cubed sphere: the middle of each face is inside it, and every direction is in the closure of one.
use Rattle.std.proofs.Common.{◌≡◌, ℕ, zero, suc, ◌<◌, ℤ, pos, negsuc, neg_ℤ, ◌+ℤ◌, ◌-ℤ◌, ◌≤ℤ◌, List, [], ◌∷◌, length, arith, refl, ◌⊎◌, inl, inr}
use Rattle.std.proofs.lemmas.Int.{ints}
use Rattle.vec_exact.specs.declared.Vec3.{Vec3}
use Rattle.vec_exact.specs.Vector.{inner}
use Rattle.vec_exact.specs.Cycle.{vector_at}
use Rattle.vec_exact.specs.Panel.{triple}
use Rattle.vec_exact.proofs.Signs.{by_sign}
use Rattle.cone_laws.specs.Cone.{NoneNegative, AllPositive}

abbrev pub IsInsidePlanes : List Vec3 → Vec3 → Type 0
IsInsidePlanes ps d = AllPositive (length ps) (vector_at ps) d

abbrev pub IsWithinPlanes : List Vec3 → Vec3 → Type 0
IsWithinPlanes ps d = NoneNegative (length ps) (vector_at ps) d

-- the edge planes of face p, from 0 on: the edges of (2, p, q) for p and q from -1 to 1 on the six panels
abbrev pub panel : ℕ → List Vec3
panel zero = triple (pos 2) (pos 0) (pos 2) ∷ triple (pos 2) (negsuc 1) (pos 0) ∷ triple (pos 2) (pos 0) (negsuc 1) ∷ triple (pos 2) (pos 2) (pos 0) ∷ []
panel (suc zero) = triple (pos 0) (pos 2) (pos 2) ∷ triple (pos 2) (pos 2) (pos 0) ∷ triple (pos 0) (pos 2) (negsuc 1) ∷ triple (negsuc 1) (pos 2) (pos 0) ∷ []
panel (suc (suc zero)) = triple (negsuc 1) (pos 0) (pos 2) ∷ triple (negsuc 1) (pos 2) (pos 0) ∷ triple (negsuc 1) (pos 0) (negsuc 1) ∷ triple (negsuc 1) (negsuc 1) (pos 0) ∷ []
panel (suc (suc (suc zero))) = triple (pos 0) (negsuc 1) (pos 2) ∷ triple (negsuc 1) (negsuc 1) (pos 0) ∷ triple (pos 0) (negsuc 1) (negsuc 1) ∷ triple (pos 2) (negsuc 1) (pos 0) ∷ []
panel (suc (suc (suc (suc zero)))) = triple (negsuc 1) (pos 0) (pos 2) ∷ triple (pos 0) (negsuc 1) (pos 2) ∷ triple (pos 2) (pos 0) (pos 2) ∷ triple (pos 0) (pos 2) (pos 2) ∷ []
panel (suc (suc (suc (suc (suc p))))) = triple (pos 2) (pos 0) (negsuc 1) ∷ triple (pos 0) (negsuc 1) (negsuc 1) ∷ triple (negsuc 1) (pos 0) (negsuc 1) ∷ triple (pos 0) (pos 2) (negsuc 1) ∷ []

-- the middle of each face
abbrev pub middle : ℕ → Vec3
middle zero = triple (pos 1) (pos 0) (pos 0)
middle (suc zero) = triple (pos 0) (pos 1) (pos 0)
middle (suc (suc zero)) = triple (negsuc 0) (pos 0) (pos 0)
middle (suc (suc (suc zero))) = triple (pos 0) (negsuc 0) (pos 0)
middle (suc (suc (suc (suc zero)))) = triple (pos 0) (pos 0) (pos 1)
middle (suc (suc (suc (suc (suc p))))) = triple (pos 0) (pos 0) (negsuc 0)

pub middle_inside : (p : ℕ) → IsInsidePlanes (panel p) (middle p)
middle_inside zero zero l = omega (arith, ints)
middle_inside zero (suc zero) l = omega (arith, ints)
middle_inside zero (suc (suc zero)) l = omega (arith, ints)
middle_inside zero (suc (suc (suc zero))) l = omega (arith, ints)
middle_inside zero (suc (suc (suc (suc t)))) l = absurd (omega arith)
middle_inside (suc zero) zero l = omega (arith, ints)
middle_inside (suc zero) (suc zero) l = omega (arith, ints)
middle_inside (suc zero) (suc (suc zero)) l = omega (arith, ints)
middle_inside (suc zero) (suc (suc (suc zero))) l = omega (arith, ints)
middle_inside (suc zero) (suc (suc (suc (suc t)))) l = absurd (omega arith)
middle_inside (suc (suc zero)) zero l = omega (arith, ints)
middle_inside (suc (suc zero)) (suc zero) l = omega (arith, ints)
middle_inside (suc (suc zero)) (suc (suc zero)) l = omega (arith, ints)
middle_inside (suc (suc zero)) (suc (suc (suc zero))) l = omega (arith, ints)
middle_inside (suc (suc zero)) (suc (suc (suc (suc t)))) l = absurd (omega arith)
middle_inside (suc (suc (suc zero))) zero l = omega (arith, ints)
middle_inside (suc (suc (suc zero))) (suc zero) l = omega (arith, ints)
middle_inside (suc (suc (suc zero))) (suc (suc zero)) l = omega (arith, ints)
middle_inside (suc (suc (suc zero))) (suc (suc (suc zero))) l = omega (arith, ints)
middle_inside (suc (suc (suc zero))) (suc (suc (suc (suc t)))) l = absurd (omega arith)
middle_inside (suc (suc (suc (suc zero)))) zero l = omega (arith, ints)
middle_inside (suc (suc (suc (suc zero)))) (suc zero) l = omega (arith, ints)
middle_inside (suc (suc (suc (suc zero)))) (suc (suc zero)) l = omega (arith, ints)
middle_inside (suc (suc (suc (suc zero)))) (suc (suc (suc zero))) l = omega (arith, ints)
middle_inside (suc (suc (suc (suc zero)))) (suc (suc (suc (suc t)))) l = absurd (omega arith)
middle_inside (suc (suc (suc (suc (suc p))))) zero l = omega (arith, ints)
middle_inside (suc (suc (suc (suc (suc p))))) (suc zero) l = omega (arith, ints)
middle_inside (suc (suc (suc (suc (suc p))))) (suc (suc zero)) l = omega (arith, ints)
middle_inside (suc (suc (suc (suc (suc p))))) (suc (suc (suc zero))) l = omega (arith, ints)
middle_inside (suc (suc (suc (suc (suc p))))) (suc (suc (suc (suc t)))) l = absurd (omega arith)

-- four planes at once
four : (a b c e d : Vec3) → pos 0 ≤ℤ inner a d → pos 0 ≤ℤ inner b d → pos 0 ≤ℤ inner c d → pos 0 ≤ℤ inner e d → IsWithinPlanes (a ∷ b ∷ c ∷ e ∷ []) d
four a b c e d h i j k zero l = h
four a b c e d h i j k (suc zero) l = i
four a b c e d h i j k (suc (suc zero)) l = j
four a b c e d h i j k (suc (suc (suc zero))) l = k
four a b c e d h i j k (suc (suc (suc (suc t)))) l = absurd (omega arith)

-- the size of a number
pub record Size (z : ℤ) : Type 0 where
  pub size : ℤ
  pub above : z ≤ℤ size
  pub below : neg_ℤ z ≤ℤ size
  pub is : (z ≡ size) ⊎ (z ≡ neg_ℤ size)

size_of : (z : ℤ) → Size z
size_of (pos n) = record { size = pos n; above = omega (arith, ints); below = omega (arith, ints); is = inl refl }
size_of (negsuc n) = record { size = pos (suc n); above = omega (arith, ints); below = omega (arith, ints); is = inr refl }

-- w is at least u and -u, and at least v and -v
pub record Leads (w u v : ℤ) : Type 0 where
  pub u_plus : pos 0 ≤ℤ (w +ℤ u)
  pub u_minus : pos 0 ≤ℤ (w -ℤ u)
  pub v_plus : pos 0 ≤ℤ (w +ℤ v)
  pub v_minus : pos 0 ≤ℤ (w -ℤ v)

leads : (w u v : ℤ) (a : Size w) (b : Size u) (c : Size v) → b.size ≤ℤ a.size → c.size ≤ℤ a.size → Leads w u v ⊎ Leads (neg_ℤ w) u v
leads w u v a b c p q =
    elim a.is [
      | inl e ↦ inl (record {
        u_plus = omega (arith, ints, e, p, b.above, b.below);
        u_minus = omega (arith, ints, e, p, b.above, b.below);
        v_plus = omega (arith, ints, e, q, c.above, c.below);
        v_minus = omega (arith, ints, e, q, c.above, c.below);
      })
      | inr e ↦ inr (record {
        u_plus = omega (arith, ints, e, p, b.above, b.below);
        u_minus = omega (arith, ints, e, p, b.above, b.below);
        v_plus = omega (arith, ints, e, q, c.above, c.below);
        v_minus = omega (arith, ints, e, q, c.above, c.below);
      })
    ]

abbrev Found : Vec3 → Type 0
Found d = (p : ℕ) × (p < 6) × IsWithinPlanes (panel p) d

from_x : (d : Vec3) → Leads d.x d.y d.z ⊎ Leads (neg_ℤ d.x) d.y d.z → Found d
from_x d (inl h) = (0, omega arith, four _ _ _ _ d (omega (arith, ints, h.v_plus)) (omega (arith, ints, h.u_minus)) (omega (arith, ints, h.v_minus)) (omega (arith, ints, h.u_plus)))
from_x d (inr h) = (2, omega arith, four _ _ _ _ d (omega (arith, ints, h.v_plus)) (omega (arith, ints, h.u_plus)) (omega (arith, ints, h.v_minus)) (omega (arith, ints, h.u_minus)))

from_y : (d : Vec3) → Leads d.y d.x d.z ⊎ Leads (neg_ℤ d.y) d.x d.z → Found d
from_y d (inl h) = (1, omega arith, four _ _ _ _ d (omega (arith, ints, h.v_plus)) (omega (arith, ints, h.u_plus)) (omega (arith, ints, h.v_minus)) (omega (arith, ints, h.u_minus)))
from_y d (inr h) = (3, omega arith, four _ _ _ _ d (omega (arith, ints, h.v_plus)) (omega (arith, ints, h.u_minus)) (omega (arith, ints, h.v_minus)) (omega (arith, ints, h.u_plus)))

from_z : (d : Vec3) → Leads d.z d.x d.y ⊎ Leads (neg_ℤ d.z) d.x d.y → Found d
from_z d (inl h) = (4, omega arith, four _ _ _ _ d (omega (arith, ints, h.u_minus)) (omega (arith, ints, h.v_minus)) (omega (arith, ints, h.u_plus)) (omega (arith, ints, h.v_plus)))
from_z d (inr h) = (5, omega arith, four _ _ _ _ d (omega (arith, ints, h.u_plus)) (omega (arith, ints, h.v_minus)) (omega (arith, ints, h.u_minus)) (omega (arith, ints, h.v_plus)))

at_most : (a b : ℤ) → (a ≤ℤ b) ⊎ (b ≤ℤ a)
at_most a b = elim (by_sign (b -ℤ a)) [ inl h ↦ inl (omega (arith, ints)) | inr h ↦ inr (omega (arith, ints)) ]

both_below : (a b c : ℤ) → a ≤ℤ b → b ≤ℤ c → a ≤ℤ c
both_below a b c p q = omega (arith, ints)

pub panel_of : (d : Vec3) → Found d
panel_of d =
    let a = size_of d.x in let b = size_of d.y in let c = size_of d.z in
    elim (at_most a.size b.size) [
      | inl ab ↦ elim (at_most b.size c.size) [
        | inl bc ↦ from_z d (leads d.z d.x d.y c a b (both_below a.size b.size c.size ab bc) bc)
        | inr cb ↦ from_y d (leads d.y d.x d.z b a c ab cb)
      ]
      | inr ba ↦ elim (at_most a.size c.size) [
        | inl ac ↦ from_z d (leads d.z d.x d.y c a b ac (both_below b.size a.size c.size ba ac))
        | inr ca ↦ from_x d (leads d.x d.y d.z a b c ba ca)
      ]
    ]
