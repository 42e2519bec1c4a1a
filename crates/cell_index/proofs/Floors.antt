-- What rounding down gives.
use Rattle.std.proofs.Common.{◌≡◌, ℕ, zero, suc, ◌+◌, ◌*◌, ◌/◌, ◌<◌, ◌≤◌, ℤ, pos, negsuc, neg_ℤ, ◌+ℤ◌, ◌-ℤ◌, ◌*ℤ◌, ◌≤ℤ◌, ◌<ℤ◌, arith, inl, inr}
use Rattle.std.proofs.lemmas.Int.{ints}
use Rattle.vec_exact.proofs.Whole.{sum_times, neg_times, one_times}
use Rattle.vec_exact.proofs.Signs.{nonneg_times, by_sign}
use Rattle.cell_index.specs.Box.{floor_of}

-- q is `a / w` rounded down
pub record IsFloor (a w q : ℤ) : Type 0 where
  pub low : (q *ℤ w) ≤ℤ a
  pub high : a <ℤ ((q +ℤ pos 1) *ℤ w)

nat_floor : (a b : ℕ) → (a / suc b * suc b ≤ a) × (a < (a / suc b + 1) * suc b)
nat_floor a b = (omega arith, omega arith)

pub floor_is : (a w : ℤ) → pos 0 <ℤ w → IsFloor a w (floor_of a w)
floor_is a (pos zero) h = absurd (omega (arith, ints))
floor_is a (negsuc b) h = absurd (omega (arith, ints))
floor_is (pos a) (pos (suc b)) h = record { low = omega (arith, ints, nat_floor a b); high = omega (arith, ints, nat_floor a b) }
floor_is (negsuc a) (pos (suc b)) h =
    record { low = omega (arith, ints, nat_floor a b); high = omega (arith, ints, sum_times (negsuc (a / suc b)) (pos 1) (pos (suc b)), one_times (pos (suc b)), nat_floor a b) }

less_times : (a b w : ℤ) → (a -ℤ b) *ℤ w ≡ a *ℤ w -ℤ b *ℤ w
less_times a b w = omega (arith, ints, sum_times a (neg_ℤ b) w, neg_times b w)

pub times_mono : (a b w : ℤ) → pos 0 <ℤ w → a ≤ℤ b → (a *ℤ w) ≤ℤ (b *ℤ w)
times_mono a b w h l = omega (arith, ints, less_times b a w, nonneg_times (b -ℤ a) w (omega (arith, ints)) (omega (arith, ints)))

-- a number whose multiple is less is less
pub less_of_times : (a b w : ℤ) → pos 0 <ℤ w → (a *ℤ w) <ℤ (b *ℤ w) → a <ℤ b
less_of_times a b w h l =
    elim (by_sign (a -ℤ b)) [
      | inr p ↦ omega (arith, ints)
      | inl p ↦ absurd (omega (arith, ints, times_mono b a w h (omega (arith, ints))))
    ]

-- at least q
pub floor_at_least : {a w f : ℤ} (q : ℤ) → IsFloor a w f → pos 0 <ℤ w → q ≤ℤ f → (q *ℤ w) ≤ℤ a
floor_at_least {a} {w} {f} q i h l = omega (arith, ints, i.low, times_mono q f w h l)

-- below q
pub floor_below : {a w f : ℤ} (q : ℤ) → IsFloor a w f → pos 0 <ℤ w → f <ℤ q → a <ℤ (q *ℤ w)
floor_below {a} {w} {f} q i h l = omega (arith, ints, i.high, times_mono (f +ℤ pos 1) q w h (omega (arith, ints)))

-- and back
pub at_least_floor : {a w f : ℤ} (q : ℤ) → IsFloor a w f → pos 0 <ℤ w → (q *ℤ w) ≤ℤ a → q ≤ℤ f
at_least_floor {a} {w} {f} q i h l = let p : q <ℤ (f +ℤ pos 1) = less_of_times q (f +ℤ pos 1) w h (omega (arith, ints, i.high)) in omega (arith, ints)

pub below_floor : {a w f : ℤ} (q : ℤ) → IsFloor a w f → pos 0 <ℤ w → a <ℤ (q *ℤ w) → f <ℤ q
below_floor {a} {w} {f} q i h l = less_of_times f q w h (omega (arith, ints, i.low))
