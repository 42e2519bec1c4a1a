-- A cycle of the first m planes lists at most m of them.
use Rattle.std.proofs.Common.{◌≡◌, ◌≢◌, ℕ, zero, suc, ◌<◌, ◌≤◌, ◌-◌, arith, ap, sym, ◌∙◌, ◌⊎◌, inl, inr, nat_eq, if◌then◌else◌}
use Rattle.vec_exact.specs.declared.Vec3.{Vec3}
use Rattle.cone_laws.specs.Ring.{IsCycle}
use Rattle.vec_exact.proofs.Cycles.{same_or_not}

some_place : (g : ℕ → ℕ) (n k : ℕ) → ((t : ℕ) × (t < k) × (g t ≡ n)) ⊎ ((t : ℕ) → t < k → g t ≢ n)
some_place g n zero = inr (λ t l. absurd (omega arith))
some_place g n (suc k) =
    elim (same_or_not (g k) n) [
      | inl e ↦ inl (k, omega arith, e)
      | inr ne ↦ elim (some_place g n k) [
        | inl s ↦ inl (s.0, omega (arith, s.1), s.2)
        | inr none ↦ inr (λ t l. elim (same_or_not t k) [ inl e ↦ λ h. ne (ap g (sym e) ∙ h) | inr d ↦ none t (omega arith) ])
      ]
    ]

-- the values with n's place taken by the last one
unfoldable filled : (ℕ → ℕ) → ℕ → ℕ → ℕ → ℕ
filled g n k t = if nat_eq (g t) n then g k else g t

filled_cases : (g : ℕ → ℕ) (n k t : ℕ) → ((g t ≡ n) × (filled g n k t ≡ g k)) ⊎ ((g t ≢ n) × (filled g n k t ≡ g t))
unfolding filled
filled_cases g n k t = grind arith

pub pigeon : (n k : ℕ) (g : ℕ → ℕ) → ((t : ℕ) → t < k → g t < n) → ((t s : ℕ) → t < k → s < k → g t ≡ g s → t ≡ s) → k ≤ n
pigeon zero zero g b d = omega arith
pigeon zero (suc k) g b d = absurd (omega (arith, b 0 (omega arith)))
pigeon (suc n) zero g b d = omega arith
pigeon (suc n) (suc k) g b d =
    elim (some_place g n (suc k)) [
      | inr none ↦ omega (arith, pigeon n (suc k) g (λ t l. omega (arith, b t l, none t l)) d)
      | inl s ↦ omega (
        arith,
        pigeon n k (filled g n k)
            (λ t l. elim (filled_cases g n k t) [
              | inl e ↦ elim (same_or_not (g k) n) [
                | inl z ↦ absurd (omega (arith, d t k (omega arith) (omega arith) (e.0 ∙ sym z)))
                | inr ne ↦ omega (arith, e.1, ne, b k (omega arith))
              ]
              | inr e ↦ omega (arith, e.0, e.1, b t (omega arith))
            ])
            (λ t r lt lr q. elim (filled_cases g n k t) [
              | inl e ↦ elim (filled_cases g n k r) [
                | inl f ↦ d t r (omega arith) (omega arith) (e.0 ∙ sym f.0)
                | inr f ↦ absurd (omega (arith, d r k (omega arith) (omega arith) (sym f.1 ∙ sym q ∙ e.1)))
              ]
              | inr e ↦ elim (filled_cases g n k r) [
                | inl f ↦ absurd (omega (arith, d t k (omega arith) (omega arith) (sym e.1 ∙ q ∙ f.1)))
                | inr f ↦ d t r (omega arith) (omega arith) (sym e.1 ∙ q ∙ f.1)
              ]
            ]),
      )
    ]

pub cycle_size : (p : ℕ → Vec3) (m k : ℕ) (g : ℕ → ℕ) → IsCycle p m k g → k ≤ m
cycle_size p m k g c =
    pigeon m k (λ t. g t - 1) (λ t l. omega (arith, c.least_number t l, c.greatest_number t l))
    (λ t s lt ls e. c.different t s lt ls (omega (arith, e, c.least_number t lt, c.least_number s ls)))
