-- A decision procedure for equations of polynomials over the whole numbers: `ring` proves `value a r ≡ value b r` where the difference of the two sides multiplies out to nothing, which the checker computes.
use Rattle.std.proofs.Common.{◌≡◌, ℕ, zero, suc, ℤ, pos, negsuc, neg_ℤ, ◌+ℤ◌, ◌*ℤ◌, arith, ap, refl, sym, ◌∙◌, Bool, true, false}
use Rattle.std.proofs.lemmas.Int.{ints}
use Rattle.std.proofs.Math.IntN.{*ℤ_comm}
use Rattle.vec_exact.proofs.Whole.{sum_times, times_sum, times_times, neg_times, one_times, zero_times}

-- an expression over numbered variables
pub data Term : Type 0 where
  var : ℕ → Term
  num : ℤ → Term
  plus : Term → Term → Term
  minus : Term → Term
  mul : Term → Term → Term

-- what a term is worth, where r gives the values of the variables
abbrev pub value : Term → (ℕ → ℤ) → ℤ
value (var i) r = r i
value (num c) r = c
value (plus a b) r = value a r +ℤ value b r
value (minus a) r = neg_ℤ (value a r)
value (mul a b) r = value a r *ℤ value b r

-- a polynomial: a number, or `p + x * q` with p over the variables after the first one
pub data Poly : Type 0 where
  con : ℤ → Poly
  hor : Poly → Poly → Poly

-- the values of the variables after the first one
abbrev shift : (ℕ → ℤ) → ℕ → ℤ
shift r i = r (suc i)

-- what a polynomial is worth
abbrev at : Poly → (ℕ → ℤ) → ℤ
at (con c) r = c
at (hor p q) r = at p (shift r) +ℤ r 0 *ℤ at q r

-- sums, and multiples by a number and by a variable
abbrev add_number : ℤ → Poly → Poly
add_number c (con d) = con (c +ℤ d)
add_number c (hor p q) = hor (add_number c p) q

abbrev add : Poly → Poly → Poly
add (con c) r = add_number c r
add (hor p q) (con d) = hor (add p (con d)) q
add (hor p q) (hor p' q') = hor (add p p') (add q q')

abbrev scale : ℤ → Poly → Poly
scale c (con d) = con (c *ℤ d)
scale c (hor p q) = hor (scale c p) (scale c q)

abbrev times_var_number : ℕ → ℤ → Poly
times_var_number zero c = hor (con (pos 0)) (con c)
times_var_number (suc i) c = hor (times_var_number i c) (con (pos 0))

abbrev times_var : Poly → ℕ → Poly
times_var (con c) i = times_var_number i c
times_var (hor p q) zero = hor (con (pos 0)) (hor p q)
times_var (hor p q) (suc i) = hor (times_var p i) (times_var q (suc i))

-- the polynomial `a * p`
abbrev run : Term → Poly → Poly
run (var i) p = times_var p i
run (num c) p = scale c p
run (plus a b) p = add (run a p) (run b p)
run (minus a) p = scale (negsuc 0) (run a p)
run (mul a b) p = run a (run b p)

-- whether all coefficients are zero
abbrev both : Bool → Bool → Bool
both true b = b
both false b = false

abbrev is_zero : ℤ → Bool
is_zero (pos zero) = true
is_zero (pos (suc n)) = false
is_zero (negsuc n) = false

abbrev pub vanishes : Poly → Bool
vanishes (con c) = is_zero c
vanishes (hor p q) = both (vanishes p) (vanishes q)

-- ---- each step keeps what the polynomial is worth
at-add_number : (c : ℤ) (p : Poly) (r : ℕ → ℤ) → at (add_number c p) r ≡ c +ℤ at p r
at-add_number c (con d) r = refl
at-add_number c (hor p q) r = omega (arith, ints, at-add_number c p (shift r))

at-add : (p q : Poly) (r : ℕ → ℤ) → at (add p q) r ≡ at p r +ℤ at q r
at-add (con c) q r = at-add_number c q r
at-add (hor p q) (con d) r = omega (arith, ints, at-add p (con d) (shift r))
at-add (hor p q) (hor p' q') r =
    omega (arith, ints, at-add p p' (shift r), ap (λ (z : ℤ). r 0 *ℤ z) (at-add q q' r), times_sum (r 0) (at q r) (at q' r))

swap : (a b c : ℤ) → a *ℤ (b *ℤ c) ≡ b *ℤ (a *ℤ c)
swap a b c = sym (times_times a b c) ∙ ap (λ (z : ℤ). z *ℤ c) (*ℤ_comm a b) ∙ times_times b a c

at-scale : (c : ℤ) (p : Poly) (r : ℕ → ℤ) → at (scale c p) r ≡ c *ℤ at p r
at-scale c (con d) r = refl
at-scale c (hor p q) r =
    omega (arith, ints, at-scale c p (shift r), ap (λ (z : ℤ). r 0 *ℤ z) (at-scale c q r), swap (r 0) c (at q r), times_sum c (at p (shift r)) (r 0 *ℤ at q r))

at-times_var_number : (i : ℕ) (c : ℤ) (r : ℕ → ℤ) → at (times_var_number i c) r ≡ r i *ℤ c
at-times_var_number zero c r = omega (arith, ints)
at-times_var_number (suc i) c r = omega (arith, ints, at-times_var_number i c (shift r), *ℤ_comm (r 0) (pos 0), zero_times (r 0))

at-times_var : (p : Poly) (i : ℕ) (r : ℕ → ℤ) → at (times_var p i) r ≡ r i *ℤ at p r
at-times_var (con c) i r = at-times_var_number i c r
at-times_var (hor p q) zero r = omega (arith, ints)
at-times_var (hor p q) (suc i) r =
    omega (arith, ints, at-times_var p i (shift r), ap (λ (z : ℤ). r 0 *ℤ z) (at-times_var q (suc i) r), swap (r 0) (r (suc i)) (at q r), times_sum (r (suc i)) (at p (shift r)) (r 0 *ℤ at q r))

at-run : (a : Term) (p : Poly) (r : ℕ → ℤ) → at (run a p) r ≡ value a r *ℤ at p r
at-run (var i) p r = at-times_var p i r
at-run (num c) p r = at-scale c p r
at-run (plus a b) p r = omega (arith, ints, at-add (run a p) (run b p) r, at-run a p r, at-run b p r, sum_times (value a r) (value b r) (at p r))
at-run (minus a) p r = omega (arith, ints, at-scale (negsuc 0) (run a p) r, at-run a p r, neg_times (value a r) (at p r), neg_times (pos 1) (at (run a p) r), one_times (at (run a p) r))
at-run (mul a b) p r =
    at-run a (run b p) r ∙ ap (λ (z : ℤ). value a r *ℤ z) (at-run b p r) ∙ sym (times_times (value a r) (value b r) (at p r))

both_left : (a b : Bool) → both a b ≡ true → a ≡ true
both_left true b h = refl
both_left false b h = h

both_right : (a b : Bool) → both a b ≡ true → b ≡ true
both_right true b h = h
both_right false b h = cc

zero_is : (c : ℤ) → is_zero c ≡ true → c ≡ pos 0
zero_is (pos zero) h = refl
zero_is (pos (suc n)) h = cc
zero_is (negsuc n) h = cc

at-vanishes : (p : Poly) (r : ℕ → ℤ) → vanishes p ≡ true → at p r ≡ pos 0
at-vanishes (con c) r h = zero_is c h
at-vanishes (hor p q) r h =
    omega (
      arith,
      ints,
      at-vanishes p (shift r) (both_left (vanishes p) (vanishes q) h),
      ap (λ (z : ℤ). r 0 *ℤ z) (at-vanishes q r (both_right (vanishes p) (vanishes q) h)),
      *ℤ_comm (r 0) (pos 0),
      zero_times (r 0),
    )

-- the procedure: its last argument is `refl` exactly where the difference of the two sides multiplies out to nothing
pub ring : (a b : Term) (r : ℕ → ℤ) → vanishes (run (plus a (minus b)) (con (pos 1))) ≡ true → value a r ≡ value b r
ring a b r h =
    omega (
      arith,
      ints,
      at-run (plus a (minus b)) (con (pos 1)) r,
      at-vanishes (run (plus a (minus b)) (con (pos 1))) r h,
      *ℤ_comm (value a r +ℤ neg_ℤ (value b r)) (pos 1),
      one_times (value a r +ℤ neg_ℤ (value b r)),
    )
