-- The two other cases of one more plane: the ring stays, or nothing is left.
use Rattle.std.proofs.Common.{◌≡◌, ℕ, suc, ◌-◌, ◌<◌, ◌≤◌, ℤ, pos, ◌≤ℤ◌, ◌<ℤ◌, List, length, slice_index, slice_index_or, arith, sym, subst}
use Rattle.std.proofs.lemmas.Int.{ints}
use Rattle.vec_exact.specs.declared.Vec3.{Vec3}
use Rattle.vec_exact.specs.Cycle.{after}
use Rattle.vec_exact.proofs.Planes.{nonzero_self}
use Rattle.cone_laws.specs.Ring.{plane, listed, IsCycle, IsRingOfFirst}
use Rattle.cone_laws.proofs.Inside.{none_beyond}
use Rattle.cone_laws.proofs.Turned.{kept}
use Rattle.cone_laws.proofs.Passing.{passes}
use Rattle.cone_laws.proofs.Pairs.{has_inside}
use Rattle.clip.specs.Planes.{HasInside, EachIs37, NoneIsZero}
use Rattle.clip.proofs.SameSigns.{same_nonneg, same_nonpos}
use Rattle.clip.specs.Usable.{IsUsable, side_at, HaveSigns}

-- the planes that the ring of the first planes lists can be computed with
pub ring_usable : (ps : List Vec3) (m : ℕ) (l : List ℕ) → m ≤ length ps → EachIs37 ps m → IsRingOfFirst ps (m - 1) l → IsUsable ps l
ring_usable ps m l o h r = record {
  least = r.cycle.least_number;
  greatest = λ t lt. omega (arith, r.cycle.greatest_number t lt);
  small = λ t lt. h (slice_index l t) (r.cycle.least_number t lt) (omega (arith, r.cycle.greatest_number t lt));
}

-- some direction is inside the ring of planes that are not zero
pub ring_inside : (ps : List Vec3) (m : ℕ) (l : List ℕ) → NoneIsZero ps m → IsRingOfFirst ps m l → HasInside ps m
ring_inside ps m l z r = has_inside (plane ps) m (length l) (slice_index l) r.cycle (record { nonzero = λ i a b. nonzero_self (plane ps i) (z i a b) })

not_negative : {z : ℤ} → (z <ℤ pos 0 → ⊥) → pos 0 ≤ℤ z
not_negative {z} h = grind (arith, ints)

-- where no side is negative, the ring stays
pub kept_ring : (ps : List Vec3) (m : ℕ) (l : List ℕ) (s : List ℤ) → 1 ≤ m → IsRingOfFirst ps (m - 1) l → HaveSigns ps l (plane ps m) s
    → (((t : ℕ) × t < length s × slice_index_or s t (pos 0) <ℤ pos 0) → ⊥) → IsRingOfFirst ps m l
kept_ring ps m l s o r a none =
    let e : suc (m - 1) ≡ m = omega arith in
    let side : (t : ℕ) → t < length l → pos 0 ≤ℤ side_at ps l (plane ps (suc (m - 1))) t = λ t lt.
    subst (λ (i : ℕ). pos 0 ≤ℤ side_at ps l (plane ps i) t) (sym e)
    (same_nonneg _ _ (a.each t lt) (not_negative (λ h. none (t, omega (arith, a.len), h)))) in
    record {
      cycle = subst (λ (i : ℕ). IsCycle (plane ps) i (length l) (slice_index l)) e (kept (plane ps) (m - 1) (length l) (slice_index l) r.cycle side);
      least_first = r.least_first;
    }

weaker : {z : ℤ} → z <ℤ pos 0 → z ≤ℤ pos 0
weaker {z} a = omega (arith, ints)

weaker' : {z : ℤ} → pos 0 <ℤ z → pos 0 ≤ℤ z
weaker' {z} a = omega (arith, ints)

-- where one side is negative, and none is positive after one that is not, no direction is left
pub nothing_inside : (ps : List Vec3) (m : ℕ) (l : List ℕ) (s : List ℤ) → 1 ≤ m → IsRingOfFirst ps (m - 1) l → HaveSigns ps l (plane ps m) s
    → ((t : ℕ) × t < length s × slice_index_or s t (pos 0) <ℤ pos 0)
    → ((t : ℕ) → t < length s → slice_index_or s t (pos 0) ≤ℤ pos 0 → slice_index_or s (after (length s) t) (pos 0) ≤ℤ pos 0) → ¬ HasInside ps m
nothing_inside ps m l s o r a n h i =
    none_beyond (length l) (listed ps l) (plane ps m) i.0 r.cycle.convex
    (λ t lt. same_nonpos _ _ (a.each t lt) (passes (λ (u : ℕ). slice_index_or s u (pos 0)) (length s) h n.0 t n.1 (omega (arith, a.len)) (weaker n.2)))
    (λ t lt. weaker' (i.1 (slice_index l t) (r.cycle.least_number t lt) (omega (arith, r.cycle.greatest_number t lt))))
    (i.1 m o (omega arith))
