-- The laws of the whole numbers that the library lacks.
use Rattle.std.proofs.Common.{◌≡◌, ℕ, ◌*◌, ℤ, pos, neg_ℤ, ◌+ℤ◌, ◌*ℤ◌, arith, ap}
use borrow.Author.Differences.{up, down, product_is, sum_is_lem, neg_is, same_in}

pub sum_times : (a b c : ℤ) → (a +ℤ b) *ℤ c ≡ a *ℤ c +ℤ b *ℤ c
sum_times a b c = same_in _ _ (omega (
  arith,
  product_is (a +ℤ b) c,
  product_is a c,
  product_is b c,
  sum_is_lem (a *ℤ c) (b *ℤ c),
  ap (λ (n : ℕ). n * up c) (sum_is_lem a b),
  ap (λ (n : ℕ). n * down c) (sum_is_lem a b),
))

pub times_sum : (c a b : ℤ) → c *ℤ (a +ℤ b) ≡ c *ℤ a +ℤ c *ℤ b
times_sum c a b = same_in _ _ (omega (
  arith,
  product_is c (a +ℤ b),
  product_is c a,
  product_is c b,
  sum_is_lem (c *ℤ a) (c *ℤ b),
  ap (λ (n : ℕ). n * up c) (sum_is_lem a b),
  ap (λ (n : ℕ). n * down c) (sum_is_lem a b),
))

pub times_times : (a b c : ℤ) → (a *ℤ b) *ℤ c ≡ a *ℤ (b *ℤ c)
times_times a b c = same_in _ _ (omega (
  arith,
  product_is (a *ℤ b) c,
  product_is a (b *ℤ c),
  ap (λ (n : ℕ). n * up c) (product_is a b).0,
  ap (λ (n : ℕ). n * down c) (product_is a b).0,
  ap (λ (n : ℕ). n * up c) (product_is a b).1,
  ap (λ (n : ℕ). n * down c) (product_is a b).1,
  ap (λ (n : ℕ). up a * n) (product_is b c).0,
  ap (λ (n : ℕ). down a * n) (product_is b c).0,
  ap (λ (n : ℕ). up a * n) (product_is b c).1,
  ap (λ (n : ℕ). down a * n) (product_is b c).1,
))

pub neg_times : (a b : ℤ) → neg_ℤ a *ℤ b ≡ neg_ℤ (a *ℤ b)
neg_times a b = same_in _ _ (omega (
  arith,
  product_is (neg_ℤ a) b,
  product_is a b,
  neg_is (a *ℤ b),
  neg_is a,
  ap (λ (n : ℕ). n * up b) (neg_is a).0,
  ap (λ (n : ℕ). n * down b) (neg_is a).0,
  ap (λ (n : ℕ). n * up b) (neg_is a).1,
  ap (λ (n : ℕ). n * down b) (neg_is a).1,
))

pub one_times : (a : ℤ) → pos 1 *ℤ a ≡ a
one_times a = same_in _ _ (omega (arith, product_is (pos 1) a))

pub zero_times : (a : ℤ) → pos 0 *ℤ a ≡ pos 0
zero_times a = same_in _ _ (omega (arith, product_is (pos 0) a))
