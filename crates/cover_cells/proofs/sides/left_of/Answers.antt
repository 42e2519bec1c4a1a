use Rattle.std.proofs.Common.{◌≡◌, ◌<◌, ℕ, ℤ, List, length, pos, ◌≤ℤ◌, ◌<ℤ◌, Bool, ◌↔◌, true, false, arith, inl, inr}
use Rattle.std.proofs.lemmas.Int.{ints}
use Rattle.vec_exact.proofs.Signs.{by_sign}
use Rattle.cone_laws.proofs.Passing.{passes}
use Rattle.cover_cells.specs.Sides.{side_at}
use Rattle.cover_cells.proofs.Runs.{found_run}
use Rattle.cover_cells.proofs.sides.left_of.Goals as goal

none_negative : (sides : List ℤ) (b : Bool) → b ≡ false → (b ≡ true ↔ ((t : ℕ) × t < length sides × side_at sides t <ℤ pos 0)) → (t : ℕ) → t < length sides → pos 0 ≤ℤ side_at sides t
none_negative sides b e h t l = elim (by_sign (side_at sides t)) [ inl p ↦ p | inr n ↦ absurd (cc (h.1 (t, l, n), e)) ]

weaker : {z : ℤ} → z <ℤ pos 0 → z ≤ℤ pos 0
weaker {z} a = omega (arith, ints)

pub returns-then-not-has_negative : goal.returns-then-not-has_negative
returns-then-not-has_negative c = none_negative c.args.sides.now c.has_negative.result c.if-not-has_negative.true c.has_negative.ensures

pub returns-in-None : goal.returns-in-None
returns-in-None c =
    let n = c.has_negative.ensures.0 c.if-not-has_negative.false in
    λ t l. passes (side_at c.args.sides.now) (length c.args.sides.now) c.in-None.ensures n.0 t n.1 l (weaker n.2)

pub returns-in-Some : goal.returns-in-Some
returns-in-Some c =
    let r = c.positive_run-count.ensures in
    found_run c.args.sides.now c.in-Some.t c.next_place-first.result c.positive_run-count.result
    (record {
      place = c.in-Some.ensures.0;
      not_positive = c.in-Some.ensures.1;
      rises = c.in-Some.ensures.2;
      next = c.next_place-first.ensures.value;
      within = r.within;
      positive = r.positive;
      stop = r.stop;
      negative = c.has_negative.ensures.0 c.if-not-has_negative.false;
    })
