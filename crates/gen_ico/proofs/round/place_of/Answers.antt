use Rattle.std.proofs.Common.{◌≡◌, ◌∙◌, length, sym, arith, w32}
use Rattle.std.proofs.lemmas.Int.{to_z-of_z}
use Rattle.gen_ico.specs.Dual.{place_of}
use Rattle.gen_ico.proofs.Places.{along, found_place}
use borrow.Author.Count.{below_more}
use Rattle.gen_ico.proofs.round.place_of.Goals as goal

pub returns-then-stands_at-clause-value : goal.returns-then-stands_at-clause-value
returns-then-stands_at-clause-value c =
    let a = c.args in
    along (λ p _. c.loop-s.s ≡ place_of p a.face.now) _ a.p _ a.p (to_z-of_z w32 a.p c.ranges.p) (to_z-of_z w32 a.p c.ranges.p)
    (sym (found_place _ a.face.now c.loop-s.s (omega arith) c.loop-s.invariant (λ _. sym c.stands_at.ensures ∙ c.if-stands_at.true)))

pub loop-s-preserved : goal.loop-s-preserved
loop-s-preserved c = below_more _ c.loop-s.s c.loop-s.invariant (sym c.stands_at.ensures ∙ c.if-stands_at.false)

pub returns-clause-value : goal.returns-clause-value
returns-clause-value c =
    let a = c.args in
    along (λ p _. length a.face.now ≡ place_of p a.face.now) _ a.p _ a.p (to_z-of_z w32 a.p c.ranges.p) (to_z-of_z w32 a.p c.ranges.p)
    (sym (found_place _ a.face.now (length a.face.now) (omega arith) (λ k lt. c.loop-s.invariant k (omega (arith, lt, c.loop-s-test.false))) (λ lt. absurd (omega (arith, lt)))))
