-- How near a rounded quotient is, how large, and how it is written as bits.
use Rattle.std.proofs.Common.{◌≡◌, ℕ, suc, ◌*◌, ◌+◌, ◌<◌, ◌≤◌, ◌^◌, ℤ, pos, negsuc, neg_ℤ, ◌-ℤ◌, ◌*ℤ◌, ◌<ℤ◌, ◌≤ℤ◌, unsigned_abs, to_z, of_z, arith, ap, ◌∙◌, true, false}
use Rattle.std.proofs.lemmas.Nat.{div_below}
use Rattle.std.proofs.lemmas.Int.{ints}
use lib.Signed.{lt_z}
use mir.Syntax.{w128}
use Rattle.vec_exact.specs.Rounding.{nearest, rounded}
use Rattle.vec_exact.proofs.Bounds.{times_at_most}
use Rattle.vec_exact.proofs.Whole.{neg_times}

pub nearest_at_most : (n d : ℕ) → 0 < d → nearest n d ≤ n
nearest_at_most n d p =
    let more : n * 1 ≤ n * d = times_at_most n 1 n d (omega arith) (omega arith) in
    let room : 2 * n + d < (n + 1) * (2 * d) = omega (arith, more) in
    let below : nearest n d < n + 1 = div_below (2 * n + d) (2 * d) (n + 1) (omega arith) room in
    omega (arith, below)

-- q times d is at most half of d away from n, and above n where it is half of d away
record IsNear (n d q : ℕ) : Type 0 where
  low : 2 * (q * d) ≤ 2 * n + d
  high : 2 * n < 2 * (q * d) + d

near : (n d : ℕ) → 0 < d → IsNear n d (nearest n d)
near n d p = record { low = omega arith; high = omega arith }

positive : (d : ℤ) → pos 0 <ℤ d → 0 < unsigned_abs d
positive d p = omega (arith, ints)

near_pos : (n d q : ℕ) → IsNear n d q → 2 * unsigned_abs (pos n -ℤ pos q *ℤ pos d) ≤ d
near_pos n d q h = omega (arith, ints, h.low, h.high)

near_neg : (n d q : ℕ) → IsNear (suc n) d q → 2 * unsigned_abs (negsuc n -ℤ neg_ℤ (pos q) *ℤ pos d) ≤ d
near_neg n d q h = omega (arith, ints, neg_times (pos q) (pos d), h.low, h.high)

pub rounded_near : (x d : ℤ) → pos 0 <ℤ d → 2 * unsigned_abs (x -ℤ rounded x (unsigned_abs d) *ℤ d) ≤ unsigned_abs d
rounded_near (pos n) (pos k) p = near_pos n k (nearest n k) (near n k (positive (pos k) p))
rounded_near (negsuc n) (pos k) p = near_neg n k (nearest (suc n) k) (near (suc n) k (positive (pos k) p))
rounded_near (pos n) (negsuc k) p = absurd (omega (arith, ints))
rounded_near (negsuc n) (negsuc k) p = absurd (omega (arith, ints))

half_pos : (n d q : ℕ) → IsNear n d q → 2 * unsigned_abs (pos n -ℤ pos q *ℤ pos d) ≡ d → n < unsigned_abs (pos q *ℤ pos d)
half_pos n d q h e = omega (arith, ints, h.low, h.high, e)

half_neg : (n d q : ℕ) → IsNear (suc n) d q → 2 * unsigned_abs (negsuc n -ℤ neg_ℤ (pos q) *ℤ pos d) ≡ d → suc n < unsigned_abs (neg_ℤ (pos q) *ℤ pos d)
half_neg n d q h e = omega (arith, ints, neg_times (pos q) (pos d), h.low, h.high, e)

pub rounded_half : (x d : ℤ) → pos 0 <ℤ d → 2 * unsigned_abs (x -ℤ rounded x (unsigned_abs d) *ℤ d) ≡ unsigned_abs d → unsigned_abs x < unsigned_abs (rounded x (unsigned_abs d) *ℤ d)
rounded_half (pos n) (pos k) p = half_pos n k (nearest n k) (near n k (positive (pos k) p))
rounded_half (negsuc n) (pos k) p = half_neg n k (nearest (suc n) k) (near (suc n) k (positive (pos k) p))
rounded_half (pos n) (negsuc k) p = absurd (omega (arith, ints))
rounded_half (negsuc n) (negsuc k) p = absurd (omega (arith, ints))

pub rounded_size : (x d : ℤ) → pos 0 <ℤ d → unsigned_abs (rounded x (unsigned_abs d)) ≤ unsigned_abs x
rounded_size (pos n) d p = nearest_at_most n (unsigned_abs d) (positive d p)
rounded_size (negsuc n) d p = omega (arith, ints, nearest_at_most (suc n) (unsigned_abs d) (positive d p))

-- ---- the quotient of two sizes, written as bits and read
same_quotient : (n m s d : ℕ) → n ≡ m → s ≡ d → nearest n s ≡ nearest m d
same_quotient n m s d e f = ap (λ (i : ℕ). nearest i s) e ∙ ap (λ (i : ℕ). nearest m i) f

read_pos : (q r : ℕ) → q ≡ r → r < 2 ^ 127 → to_z w128 q ≡ pos r
read_pos q r e l = omega (arith, ints)

read_neg : (q r : ℕ) → q ≡ r → r < 2 ^ 127 → to_z w128 (of_z w128 (pos 0 -ℤ to_z w128 q)) ≡ neg_ℤ (pos r)
read_neg q r e l = omega (arith, ints)

small : (n d : ℕ) → 0 < d → n < 2 ^ 124 → nearest n d < 2 ^ 127
small n d p l = omega (arith, nearest_at_most n d p)

pub read_rounded : (x d : ℤ) (n s : ℕ) → lt_z x (pos 0) ≡ false → n ≡ unsigned_abs x → s ≡ unsigned_abs d → pos 0 <ℤ d → unsigned_abs x < 2 ^ 124 → to_z w128 (nearest n s) ≡ rounded x (unsigned_abs d)
read_rounded (pos k) d n s t e f p l = read_pos (nearest n s) (nearest k (unsigned_abs d)) (same_quotient n k s (unsigned_abs d) e f) (small k (unsigned_abs d) (positive d p) l)
read_rounded (negsuc k) d n s t e f p l = absurd (grind arith)

pub read_rounded_neg : (x d : ℤ) (n s : ℕ) → lt_z x (pos 0) ≡ true → n ≡ unsigned_abs x → s ≡ unsigned_abs d → pos 0 <ℤ d → unsigned_abs x < 2 ^ 124
    → to_z w128 (of_z w128 (pos 0 -ℤ to_z w128 (nearest n s))) ≡ rounded x (unsigned_abs d)
read_rounded_neg (pos k) d n s t e f p l = absurd (grind arith)
read_rounded_neg (negsuc k) d n s t e f p l = read_neg (nearest n s) (nearest (suc k) (unsigned_abs d)) (same_quotient n (suc k) s (unsigned_abs d) e f) (small (suc k) (unsigned_abs d) (positive d p) l)
