-- The whole square root is the one number between whose square and the next square n lies.
use Rattle.std.proofs.Common.{◌≡◌, ℕ, zero, suc, ◌+◌, ◌*◌, ◌<◌, ◌≤◌, ℤ, pos, negsuc, ◌+ℤ◌, ◌*ℤ◌, ◌≤ℤ◌, ◌<ℤ◌, unsigned_abs, arith, ap, sym, ◌⊎◌, inl, inr, subst, nat_le, if◌then◌else◌}
use Rattle.std.proofs.lemmas.Int.{ints}
use Rattle.vec_exact.specs.Root.{root_of, next_root}

pub record IsRoot (n r : ℕ) : Type 0 where
  pub square : r * r ≤ n
  pub next : n < suc r * suc r

next_root_is : (n r : ℕ) → IsRoot n r → IsRoot (suc n) (next_root (suc n) r)
next_root_is n r h =
    elim (le_or_gt (suc r * suc r) (suc n)) [
      | inl p ↦ subst (IsRoot (suc n)) (sym (at_true (suc r * suc r) (suc n) r p)) (record { square = p; next = omega (arith, h.next) })
      | inr p ↦ subst (IsRoot (suc n)) (sym (at_false (suc r * suc r) (suc n) r p)) (record { square = omega (arith, h.square); next = p })
    ]
  where
    le_or_gt : (a b : ℕ) → (a ≤ b) ⊎ (b < a)
    le_or_gt a b = grind arith

    at_true : (a b r : ℕ) → a ≤ b → (if nat_le a b then suc r else r) ≡ suc r
    at_true a b r p = grind arith

    at_false : (a b r : ℕ) → b < a → (if nat_le a b then suc r else r) ≡ r
    at_false a b r p = grind arith

pub root_is : (n : ℕ) → IsRoot n (root_of n)
unfolding root_of
root_is zero = record { square = omega arith; next = omega arith }
root_is (suc n) = next_root_is n (root_of n) (root_is n)

square_mono : (a b : ℕ) → a ≤ b → a * a ≤ b * b
square_mono a b h = grind arith

root_at_most : (n r s : ℕ) → IsRoot n r → IsRoot n s → r ≤ s
root_at_most n r s p q =
    elim (le_or_gt r s) [
      | inl l ↦ l
      | inr g ↦ absurd (omega (arith, p.square, q.next, square_mono (suc s) r g))
    ]
  where
    le_or_gt : (a b : ℕ) → (a ≤ b) ⊎ (suc b ≤ a)
    le_or_gt a b = grind arith

pub root_unique : (n r : ℕ) → r * r ≤ n → n < (r + 1) * (r + 1) → r ≡ root_of n
root_unique n r p q =
    let h : IsRoot n r = record { square = p; next = omega (arith, q) } in
    let a = root_at_most n r (root_of n) h (root_is n) in
    let b = root_at_most n (root_of n) r (root_is n) h in
    omega (arith, a, b)

-- the same of whole numbers with a sign
pub root_unique_signed : (z r : ℤ) → pos 0 ≤ℤ r → (r *ℤ r) ≤ℤ z → z <ℤ ((r +ℤ pos 1) *ℤ (r +ℤ pos 1)) → r ≡ pos (root_of (unsigned_abs z))
root_unique_signed (pos n) (pos r) l p q = ap pos (root_unique n r (omega (arith, ints, p)) (omega (arith, ints, q)))
root_unique_signed (negsuc n) (pos r) l p q = absurd (omega (arith, ints, p))
root_unique_signed z (negsuc r) l p q = absurd (omega (arith, ints, l))

-- a root is at least as large as each number whose square is at most n
pub at_most_root : (n r m : ℕ) → n < (r + 1) * (r + 1) → m * m ≤ n → m ≤ r
at_most_root n r m q p =
    elim (le_or_gt m r) [
      | inl l ↦ l
      | inr g ↦ absurd (omega (arith, p, q, square_mono (suc r) m g))
    ]
  where
    le_or_gt : (a b : ℕ) → (a ≤ b) ⊎ (suc b ≤ a)
    le_or_gt a b = grind arith

-- a root is below each number whose square is above n
pub root_below : (n m : ℕ) → n < m * m → root_of n < m
root_below n m h =
    elim (le_or_gt m (root_of n)) [
      | inl l ↦ absurd (omega (arith, h, (root_is n).square, square_mono m (root_of n) l))
      | inr g ↦ g
    ]
  where
    le_or_gt : (a b : ℕ) → (a ≤ b) ⊎ (b < a)
    le_or_gt a b = grind arith
