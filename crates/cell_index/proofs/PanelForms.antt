-- What a panel sees of a direction is linear in it, and every direction lies on some panel.
use Rattle.std.proofs.Common.{◌≡◌, ℕ, ◌+◌, ◌<◌, ◌≤◌, ℤ, pos, ◌+ℤ◌, ◌-ℤ◌, ◌*ℤ◌, ◌≤ℤ◌, ◌<ℤ◌, unsigned_abs, arith, refl, ◌⊎◌, inl, inr, [], ◌∷◌}
use Rattle.std.proofs.lemmas.Int.{ints}
use Rattle.vec_exact.specs.declared.Vec3.{Vec3}
use Rattle.vec_exact.specs.declared.panels.Panel.{Panel}
use Rattle.vec_exact.specs.declared.panels.Panel.TheVariants.{PlusX, PlusY, MinusX, MinusY, PlusZ, MinusZ}
use Rattle.vec_exact.specs.Vector.{inner}
use Rattle.vec_exact.specs.Panel.{on_panel, triple}
use Rattle.vec_exact.proofs.Ring.{Term, var, plus, minus, mul, ring}
use Rattle.vec_exact.proofs.Terms.{Terms, inner_t, v, look}
use Rattle.vec_exact.proofs.Signs.{by_strict_sign}
use Rattle.cell_index.specs.Box.{seen_from}

abbrev terms_of : Term → Term → Term → Terms
terms_of a b c = record { x = a; y = b; z = c }

-- `a * w + b * u + c * v`, the factors being the first three variables
abbrev sum_t : Terms → Term
sum_t t = plus (plus (mul (var 0) t.x) (mul (var 1) t.y)) (mul (var 2) t.z)

abbrev squares_t : Term
squares_t = plus (plus (mul (var 0) (var 0)) (mul (var 1) (var 1))) (mul (var 2) (var 2))

-- the triple with the coordinates a, b, c has the inner product `a * w + b * u + c * v` with d
pub inner_form : (p : Panel) (a b c : ℤ) (d : Vec3) → inner (on_panel p a b c) d ≡ a *ℤ (seen_from p d).w +ℤ b *ℤ (seen_from p d).u +ℤ c *ℤ (seen_from p d).v
inner_form PlusX a b c d = ring (inner_t (terms_of (var 0) (var 1) (var 2)) (v 1)) (sum_t (terms_of (var 3) (var 4) (var 5))) (look (triple a b c ∷ d ∷ [])) refl
inner_form PlusY a b c d =
    ring (inner_t (terms_of (minus (var 1)) (var 0) (var 2)) (v 1)) (sum_t (terms_of (var 4) (minus (var 3)) (var 5))) (look (triple a b c ∷ d ∷ [])) refl
inner_form MinusX a b c d =
    ring (inner_t (terms_of (minus (var 0)) (minus (var 1)) (var 2)) (v 1)) (sum_t (terms_of (minus (var 3)) (minus (var 4)) (var 5))) (look (triple a b c ∷ d ∷ [])) refl
inner_form MinusY a b c d =
    ring (inner_t (terms_of (var 1) (minus (var 0)) (var 2)) (v 1)) (sum_t (terms_of (minus (var 4)) (var 3) (var 5))) (look (triple a b c ∷ d ∷ [])) refl
inner_form PlusZ a b c d =
    ring (inner_t (terms_of (minus (var 2)) (var 1) (var 0)) (v 1)) (sum_t (terms_of (var 5) (var 4) (minus (var 3)))) (look (triple a b c ∷ d ∷ [])) refl
inner_form MinusZ a b c d =
    ring (inner_t (terms_of (var 2) (var 1) (minus (var 0))) (v 1)) (sum_t (terms_of (minus (var 5)) (var 4) (var 3))) (look (triple a b c ∷ d ∷ [])) refl

pub form_self : (p : Panel) (a b c : ℤ) → inner (on_panel p a b c) (on_panel p a b c) ≡ a *ℤ a +ℤ b *ℤ b +ℤ c *ℤ c
form_self PlusX a b c = let t = terms_of (var 0) (var 1) (var 2) in ring (inner_t t t) squares_t (look (triple a b c ∷ [])) refl
form_self PlusY a b c = let t = terms_of (minus (var 1)) (var 0) (var 2) in ring (inner_t t t) squares_t (look (triple a b c ∷ [])) refl
form_self MinusX a b c = let t = terms_of (minus (var 0)) (minus (var 1)) (var 2) in ring (inner_t t t) squares_t (look (triple a b c ∷ [])) refl
form_self MinusY a b c = let t = terms_of (var 1) (minus (var 0)) (var 2) in ring (inner_t t t) squares_t (look (triple a b c ∷ [])) refl
form_self PlusZ a b c = let t = terms_of (minus (var 2)) (var 1) (var 0) in ring (inner_t t t) squares_t (look (triple a b c ∷ [])) refl
form_self MinusZ a b c = let t = terms_of (var 2) (var 1) (minus (var 0)) in ring (inner_t t t) squares_t (look (triple a b c ∷ [])) refl

-- d lies in front of panel p, and not beyond its sides
pub record IsOn (p : Panel) (d : Vec3) : Type 0 where
  pub front : pos 0 <ℤ (seen_from p d).w
  pub u_low : pos 0 ≤ℤ ((seen_from p d).w +ℤ (seen_from p d).u)
  pub u_high : pos 0 ≤ℤ ((seen_from p d).w -ℤ (seen_from p d).u)
  pub v_low : pos 0 ≤ℤ ((seen_from p d).w +ℤ (seen_from p d).v)
  pub v_high : pos 0 ≤ℤ ((seen_from p d).w -ℤ (seen_from p d).v)

greatest_of_three : (x y z : ℕ) → (y ≤ x × z ≤ x) ⊎ ((x ≤ y × z ≤ y) ⊎ (x ≤ z × y ≤ z))
greatest_of_three x y z = grind arith

-- every direction but zero is on some panel
pub panel_for : (d : Vec3) → 0 < unsigned_abs d.x + unsigned_abs d.y + unsigned_abs d.z → (p : Panel) × IsOn p d
panel_for d h =
    elim (greatest_of_three (unsigned_abs d.x) (unsigned_abs d.y) (unsigned_abs d.z)) [
      | inl m ↦ elim (by_strict_sign d.x) [
        | inl s ↦ (PlusX, record { front = s; u_low = omega (arith, ints); u_high = omega (arith, ints); v_low = omega (arith, ints); v_high = omega (arith, ints) })
        | inr s ↦ (MinusX, record { front = omega (arith, ints); u_low = omega (arith, ints); u_high = omega (arith, ints); v_low = omega (arith, ints); v_high = omega (arith, ints) })
      ]
      | inr o ↦ elim o [
        | inl m ↦ elim (by_strict_sign d.y) [
          | inl s ↦ (PlusY, record { front = s; u_low = omega (arith, ints); u_high = omega (arith, ints); v_low = omega (arith, ints); v_high = omega (arith, ints) })
          | inr s ↦ (MinusY, record { front = omega (arith, ints); u_low = omega (arith, ints); u_high = omega (arith, ints); v_low = omega (arith, ints); v_high = omega (arith, ints) })
        ]
        | inr m ↦ elim (by_strict_sign d.z) [
          | inl s ↦ (PlusZ, record { front = s; u_low = omega (arith, ints); u_high = omega (arith, ints); v_low = omega (arith, ints); v_high = omega (arith, ints) })
          | inr s ↦ (MinusZ, record { front = omega (arith, ints); u_low = omega (arith, ints); u_high = omega (arith, ints); v_low = omega (arith, ints); v_high = omega (arith, ints) })
        ]
      ]
    ]
