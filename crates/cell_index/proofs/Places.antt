-- Tests and least values over places.
use Rattle.std.proofs.Common.{◌≡◌, ℕ, zero, suc, ◌<◌, ◌≤◌, ℤ, ◌≤ℤ◌, ◌<ℤ◌, arith, ap, refl, sym, ◌∙◌, ◌⊎◌, inl, inr, subst, Bool, true, false, ◌&&◌, ◌||◌, int_lt, int_le}
use Rattle.std.proofs.lemmas.Int.{ints, clamps}
use Rattle.vec_exact.proofs.Cycles.{same_or_not}
use Rattle.cell_index.specs.Box.{every, least, greatest}

pub true_or_false : (b : Bool) → (b ≡ true) ⊎ (b ≡ false)
true_or_false true = inl refl
true_or_false false = inr refl

pub and_left : (a b : Bool) → (a && b) ≡ true → a ≡ true
and_left true b h = refl
and_left false b h = h

pub and_right : (a b : Bool) → (a && b) ≡ true → b ≡ true
and_right true b h = h
and_right false b h = cc

pub and_both : (a b : Bool) → a ≡ true → b ≡ true → (a && b) ≡ true
and_both a b p q = cc

pub or_cases : (a b : Bool) → (a || b) ≡ true → (a ≡ true) ⊎ (b ≡ true)
or_cases true b h = inl refl
or_cases false b h = inr h

pub or_none : (a b : Bool) → (a || b) ≡ false → (a ≡ false) × (b ≡ false)
or_none true b h = cc
or_none false b h = (refl, h)

pub every_at : (f : ℕ → Bool) (n t : ℕ) → every f n ≡ true → t < n → f t ≡ true
every_at f zero t h l = absurd (omega arith)
every_at f (suc n) t h l =
    elim (same_or_not t n) [
      | inl e ↦ ap f e ∙ and_right (every f n) (f n) h
      | inr ne ↦ every_at f n t (and_left (every f n) (f n) h) (omega arith)
    ]

pub every_from : (f : ℕ → Bool) (n : ℕ) → ((t : ℕ) → t < n → f t ≡ true) → every f n ≡ true
every_from f zero h = refl
every_from f (suc n) h = and_both (every f n) (f n) (every_from f n (λ t l. h t (omega arith))) (h n (omega arith))

pub least_at : (f : ℕ → ℤ) (n t : ℕ) → t ≤ n → least f n ≤ℤ f t
least_at f zero t l = subst (λ (i : ℕ). f 0 ≤ℤ f i) (let e : 0 ≡ t = omega arith in e) (omega (arith, ints))
least_at f (suc n) t l =
    elim (same_or_not t (suc n)) [
      | inl e ↦ subst (λ (i : ℕ). least f (suc n) ≤ℤ f i) (sym e) (omega (arith, ints, clamps))
      | inr ne ↦ omega (arith, ints, clamps, least_at f n t (omega arith))
    ]

pub greatest_at : (f : ℕ → ℤ) (n t : ℕ) → t ≤ n → f t ≤ℤ greatest f n
greatest_at f zero t l = subst (λ (i : ℕ). f i ≤ℤ f 0) (let e : 0 ≡ t = omega arith in e) (omega (arith, ints))
greatest_at f (suc n) t l =
    elim (same_or_not t (suc n)) [
      | inl e ↦ subst (λ (i : ℕ). f i ≤ℤ greatest f (suc n)) (sym e) (omega (arith, ints, clamps))
      | inr ne ↦ omega (arith, ints, clamps, greatest_at f n t (omega arith))
    ]

pub le_true : (a b : ℤ) → int_le a b ≡ true → a ≤ℤ b
le_true a b h = grind (arith, ints)

pub le_from : (a b : ℤ) → a ≤ℤ b → int_le a b ≡ true
le_from a b h = grind (arith, ints)

pub lt_true : (a b : ℤ) → int_lt a b ≡ true → a <ℤ b
lt_true a b h = grind (arith, ints)

pub lt_false : (a b : ℤ) → b ≤ℤ a → int_lt a b ≡ false
lt_false a b h = grind (arith, ints)

pub lt_from : (a b : ℤ) → a <ℤ b → int_lt a b ≡ true
lt_from a b h = grind (arith, ints)
