-- Sums of triples with whole factors.
use Rattle.std.proofs.Common.{◌≡◌, ◌≢◌, ℕ, zero, suc, ◌+◌, ◌<◌, ◌≤◌, ℤ, pos, negsuc, ◌≤ℤ◌, ◌<ℤ◌, arith, ap, refl, sym, ◌∙◌, inl, inr, subst, nat_eq, if◌then◌else◌}
use Rattle.std.proofs.lemmas.Int.{ints}
use Rattle.vec_exact.specs.declared.Vec3.{Vec3}
use Rattle.vec_exact.specs.Vector.{zero_triple, inner, scaled, added}
use Rattle.vec_exact.proofs.Whole.{one_times}
use Rattle.vec_exact.proofs.Signs.{nonneg_times, times_nonpos}
use Rattle.vec_exact.proofs.Identities.{inner_added, inner_scaled, inner_zero, zero_added, added_zero_times, regroup}
use Rattle.vec_exact.proofs.Cycles.{same_or_not}
use Rattle.cone_laws.specs.Cone.{combination}

-- ---- the side of a combination
pub combination_nonneg : (a : Vec3) (c : ℕ → Vec3) (w : ℕ → ℕ) (j : ℕ) → ((t : ℕ) → t < j → pos 0 ≤ℤ inner a (c t)) → pos 0 ≤ℤ inner a (combination c w j)
combination_nonneg a c w zero h = omega (arith, ints, inner_zero a)
combination_nonneg a c w (suc j) h =
    omega (
      arith,
      ints,
      inner_added a (combination c w j) (scaled (pos (w j)) (c j)),
      inner_scaled (pos (w j)) a (c j),
      combination_nonneg a c w j (λ t l. h t (omega arith)),
      nonneg_times (pos (w j)) (inner a (c j)) (omega (arith, ints)) (h j (omega arith)),
    )

pub combination_nonpos : (a : Vec3) (c : ℕ → Vec3) (w : ℕ → ℕ) (j : ℕ) → ((t : ℕ) → t < j → inner a (c t) ≤ℤ pos 0) → inner a (combination c w j) ≤ℤ pos 0
combination_nonpos a c w zero h = omega (arith, ints, inner_zero a)
combination_nonpos a c w (suc j) h =
    omega (
      arith,
      ints,
      inner_added a (combination c w j) (scaled (pos (w j)) (c j)),
      inner_scaled (pos (w j)) a (c j),
      combination_nonpos a c w j (λ t l. h t (omega arith)),
      times_nonpos (w j) (inner a (c j)) (h j (omega arith)),
    )

-- where no triple is negative on a and one is positive, their sum is positive
pub sum_pos : (a : Vec3) (c : ℕ → Vec3) (j r : ℕ) → r < j → ((t : ℕ) → t < j → pos 0 ≤ℤ inner a (c t)) → pos 0 <ℤ inner a (c r) → pos 0 <ℤ inner a (combination c (λ _. 1) j)
sum_pos a c zero r l h p = absurd (omega arith)
sum_pos a c (suc j) r l h p =
    elim (same_or_not r j) [
      | inl e ↦
          let q : pos 0 <ℤ inner a (c j) = subst (λ (i : ℕ). pos 0 <ℤ inner a (c i)) e p in
          omega (
            arith,
            ints,
            inner_added a (combination c (λ _. 1) j) (scaled (pos 1) (c j)),
            inner_scaled (pos 1) a (c j),
            combination_nonneg a c (λ _. 1) j (λ t lt. h t (omega arith)),
            q,
            one_times (inner a (c j)),
          )
      | inr ne ↦
          omega (
            arith,
            ints,
            inner_added a (combination c (λ _. 1) j) (scaled (pos 1) (c j)),
            inner_scaled (pos 1) a (c j),
            sum_pos a c j r (omega arith) (λ t lt. h t (omega arith)) p,
            h j (omega arith),
            one_times (inner a (c j)),
          )
    ]

-- ---- combinations add up
pub combination_added : (c : ℕ → Vec3) (w u : ℕ → ℕ) (j : ℕ) → combination c (λ i. w i + u i) j ≡ added (combination c w j) (combination c u j)
combination_added c w u zero = sym (zero_added zero_triple)
combination_added c w u (suc j) =
    ap (λ (z : Vec3). added z (scaled (pos (w j + u j)) (c j))) (combination_added c w u j)
    ∙ regroup (combination c w j) (combination c u j) (c j) (pos (w j)) (pos (u j))

-- ---- one triple's multiple is a combination
-- the factor m at place t, and 0 elsewhere
unfoldable pub single : ℕ → ℕ → ℕ → ℕ
single t m i = if nat_eq i t then m else 0

single_same : (t m : ℕ) → single t m t ≡ m
unfolding single
single_same t m = grind arith

single_other : (t m i : ℕ) → i ≢ t → single t m i ≡ 0
unfolding single
single_other t m i h = grind arith

combination_before : (c : ℕ → Vec3) (t m j : ℕ) → j ≤ t → combination c (single t m) j ≡ zero_triple
combination_before c t m zero l = refl
combination_before c t m (suc j) l =
    ap (λ (z : ℕ). added (combination c (single t m) j) (scaled (pos z) (c j))) (single_other t m j (omega arith))
    ∙ added_zero_times (combination c (single t m) j) (c j)
    ∙ combination_before c t m j (omega arith)

pub combination_single : (c : ℕ → Vec3) (t m j : ℕ) → t < j → combination c (single t m) j ≡ scaled (pos m) (c t)
combination_single c t m zero l = absurd (omega arith)
combination_single c t m (suc j) l =
    elim (same_or_not j t) [
      | inl e ↦ ap (λ (i : ℕ). added (combination c (single t m) j) (scaled (pos (single t m i)) (c i))) e
          ∙ ap (λ (z : ℕ). added (combination c (single t m) j) (scaled (pos z) (c t))) (single_same t m)
          ∙ ap (λ (z : Vec3). added z (scaled (pos m) (c t))) (combination_before c t m j (omega arith))
          ∙ zero_added (scaled (pos m) (c t))
      | inr ne ↦ ap (λ (z : ℕ). added (combination c (single t m) j) (scaled (pos z) (c j))) (single_other t m j ne)
          ∙ added_zero_times (combination c (single t m) j) (c j)
          ∙ combination_single c t m j (omega arith)
    ]

-- ---- three factors as one combination
abbrev amount : ℤ → ℕ
amount (pos n) = n
amount (negsuc n) = 0

amount_is : (z : ℤ) → pos 0 ≤ℤ z → pos (amount z) ≡ z
amount_is (pos n) h = refl
amount_is (negsuc n) h = absurd (omega (arith, ints))

-- a positive multiple of d that is a sum of three of the k triples is a combination of all
pub from_three : (k : ℕ) (c : ℕ → Vec3) (d : Vec3) (r s t : ℕ) (m x y z : ℤ) → r < k → s < k → t < k → pos 0 <ℤ m → pos 0 ≤ℤ x → pos 0 ≤ℤ y → pos 0 ≤ℤ z
    → scaled m d ≡ added (added (scaled x (c r)) (scaled y (c s))) (scaled z (c t))
    → (q : ℕ) × (w : ℕ → ℕ) × (0 < q) × (scaled (pos q) d ≡ combination c w k)
from_three k c d r s t m x y z lr ls lt pm px py pz e = (
  amount m,
  λ i. single r (amount x) i + single s (amount y) i + single t (amount z) i,
  omega (arith, ints, amount_is m (omega (arith, ints))),
  ap (λ (j : ℤ). scaled j d) (amount_is m (omega (arith, ints)))
      ∙ e
      ∙ sym (combination_added c (λ i. single r (amount x) i + single s (amount y) i) (single t (amount z)) k
      ∙ ap (λ (u : Vec3). added u (combination c (single t (amount z)) k)) (combination_added c (single r (amount x)) (single s (amount y)) k)
      ∙ ap (λ (u : Vec3). added (added u (combination c (single s (amount y)) k)) (combination c (single t (amount z)) k)) (combination_single c r (amount x) k lr)
      ∙ ap (λ (u : Vec3). added (added (scaled (pos (amount x)) (c r)) u) (combination c (single t (amount z)) k)) (combination_single c s (amount y) k ls)
      ∙ ap (λ (u : Vec3). added (added (scaled (pos (amount x)) (c r)) (scaled (pos (amount y)) (c s))) u) (combination_single c t (amount z) k lt)
      ∙ ap (λ (j : ℤ). added (added (scaled j (c r)) (scaled (pos (amount y)) (c s))) (scaled (pos (amount z)) (c t))) (amount_is x px)
      ∙ ap (λ (j : ℤ). added (added (scaled x (c r)) (scaled j (c s))) (scaled (pos (amount z)) (c t))) (amount_is y py)
      ∙ ap (λ (j : ℤ). added (added (scaled x (c r)) (scaled y (c s))) (scaled j (c t))) (amount_is z pz)),
)
