-- A positive factor of both parts of a quotient cancels when it is rounded.
use Rattle.std.proofs.Common.{◌≡◌, ◌⊎◌, inl, inr, ◌≤◌, ℕ, zero, suc, ◌*◌, ◌+◌, ◌/◌, ◌<◌, max, [], ◌∷◌, ℤ, pos, negsuc, neg_ℤ, ◌*ℤ◌, unsigned_abs, arith, ap, ◌∙◌, refl}
use Rattle.std.proofs.Math.Nat.{mul-div-mul_left, mul-le-mul_left}
use Rattle.std.proofs.lemmas.Int.{unsigned_abs-mul}
use Rattle.vec_exact.specs.declared.Vec3.{Vec3}
use Rattle.vec_exact.specs.Vector.{scaled}
use Rattle.vec_exact.specs.Rounding.{nearest, rounded}
use Rattle.vec_exact.proofs.Whole.{times_times}
use Rattle.piece_measure.specs.Grid.{component_size, grid_corner_of, SameForMultiples}

pub nearest_multiple : (k n d : ℕ) → 0 < k → nearest (k * n) (k * d) ≡ nearest n d
nearest_multiple k n d p =
    let top : 2 * (k * n) + k * d ≡ k * (2 * n + d) = omega arith in
    let bottom : 2 * (k * d) ≡ k * (2 * d) = omega arith in
    ap (λ (i : ℕ). i / (2 * (k * d))) top
    ∙ ap (λ (i : ℕ). (k * (2 * n + d)) / i) bottom
    ∙ mul-div-mul_left (2 * n + d) (2 * d) p

-- of a number of any sign, by its size and its sign
rounded_neg : (n d : ℕ) → 0 < n → rounded (neg_ℤ (pos n)) d ≡ neg_ℤ (pos (nearest n d))
rounded_neg zero d p = absurd (omega arith)
rounded_neg (suc n) d p = refl

times_some : (k n : ℕ) → 0 < k → 0 < k * suc n
times_some k n p = let m : k * 1 ≤ k * suc n = mul-le-mul_left k (omega arith) in omega (arith, m)

pub rounded_multiple : (k : ℕ) (x : ℤ) (d : ℕ) → 0 < k → rounded (pos k *ℤ x) (k * d) ≡ rounded x d
rounded_multiple k (pos n) d p = ap pos (nearest_multiple k n d p)
rounded_multiple k (negsuc n) d p = rounded_neg (k * suc n) (k * d) (times_some k n p) ∙ ap (λ (i : ℕ). neg_ℤ (pos i)) (nearest_multiple k (suc n) d p)

-- ---- the grid corner of a multiple
max_multiple : (k a b : ℕ) → max (k * a) (k * b) ≡ k * max a b
max_multiple k a b =
    elim (order a b) [
      | inl l ↦ let m : k * a ≤ k * b = mul-le-mul_left k l in max_of k a b l m
      | inr l ↦ let m : k * b ≤ k * a = mul-le-mul_left k l in max_of' k a b l m
    ]
  where
    order : (a b : ℕ) → (a ≤ b) ⊎ (b ≤ a)
    order a b = grind arith

    max_of : (k a b : ℕ) → a ≤ b → k * a ≤ k * b → max (k * a) (k * b) ≡ k * max a b
    max_of k a b l m = let e : max a b ≡ b = omega arith in omega (arith, m, ap (λ (i : ℕ). k * i) e)

    max_of' : (k a b : ℕ) → b ≤ a → k * b ≤ k * a → max (k * a) (k * b) ≡ k * max a b
    max_of' k a b l m = let e : max a b ≡ a = omega arith in omega (arith, m, ap (λ (i : ℕ). k * i) e)

size_multiple : (k : ℕ) (c : Vec3) → component_size (scaled (pos k) c) ≡ k * component_size c
size_multiple k c =
    ap (λ (i : ℕ). max (max i (unsigned_abs (pos k *ℤ c.y))) (unsigned_abs (pos k *ℤ c.z))) (unsigned_abs-mul (pos k) c.x)
    ∙ ap (λ (i : ℕ). max (max (k * unsigned_abs c.x) i) (unsigned_abs (pos k *ℤ c.z))) (unsigned_abs-mul (pos k) c.y)
    ∙ ap (λ (i : ℕ). max (max (k * unsigned_abs c.x) (k * unsigned_abs c.y)) i) (unsigned_abs-mul (pos k) c.z)
    ∙ ap (λ (i : ℕ). max i (k * unsigned_abs c.z)) (max_multiple k (unsigned_abs c.x) (unsigned_abs c.y))
    ∙ max_multiple k (max (unsigned_abs c.x) (unsigned_abs c.y)) (unsigned_abs c.z)

component_multiple : (k : ℕ) (x : ℤ) (d s : ℕ) → 0 < k → s ≡ k * d → rounded ((pos k *ℤ x) *ℤ pos 268435456) s ≡ rounded (x *ℤ pos 268435456) d
component_multiple k x d s p e =
    ap (rounded ((pos k *ℤ x) *ℤ pos 268435456)) e
    ∙ ap (λ (z : ℤ). rounded z (k * d)) (times_times (pos k) x (pos 268435456))
    ∙ rounded_multiple k (x *ℤ pos 268435456) d p

three : {a b c d e f : ℤ} → a ≡ d → b ≡ e → c ≡ f → a ∷ b ∷ c ∷ [] ≡ d ∷ e ∷ f ∷ []
three {a} {b} {c} {d} {e} {f} p q r = cc

pub same_for_multiples : SameForMultiples
unfolding grid_corner_of
same_for_multiples c k p =
    let s = size_multiple k c in
    three
    (component_multiple k c.x (component_size c) (component_size (scaled (pos k) c)) p s)
    (component_multiple k c.y (component_size c) (component_size (scaled (pos k) c)) p s)
    (component_multiple k c.z (component_size c) (component_size (scaled (pos k) c)) p s)
