use Rattle.std.proofs.Common.{◌≡◌, ◌∙◌, length, sym, arith, w32}
use Rattle.std.proofs.lemmas.Int.{to_z-of_z}
use Rattle.gen_ico.specs.Dual.{place_followed}
use Rattle.gen_ico.proofs.Places.{along, found_followed}
use borrow.Author.Count.{below_more}
use Rattle.gen_ico.proofs.round.place_followed.Goals as goal

pub returns-then-has_at-clause-value : goal.returns-then-has_at-clause-value
returns-then-has_at-clause-value c =
    let a = c.args in
    along (λ p h. c.loop-s.s ≡ place_followed p h a.face.now) _ a.p _ a.h (to_z-of_z w32 a.p c.ranges.p) (to_z-of_z w32 a.h c.ranges.h)
    (sym (found_followed _ _ a.face.now c.loop-s.s (omega arith) c.loop-s.invariant (λ _. sym c.has_at.ensures ∙ c.if-has_at.true)))

pub loop-s-preserved : goal.loop-s-preserved
loop-s-preserved c = below_more _ c.loop-s.s c.loop-s.invariant (sym c.has_at.ensures ∙ c.if-has_at.false)

pub returns-clause-value : goal.returns-clause-value
returns-clause-value c =
    let a = c.args in
    along (λ p h. length a.face.now ≡ place_followed p h a.face.now) _ a.p _ a.h (to_z-of_z w32 a.p c.ranges.p) (to_z-of_z w32 a.h c.ranges.h)
    (sym (found_followed _ _ a.face.now (length a.face.now) (omega arith) (λ k lt. c.loop-s.invariant k (omega (arith, lt, c.loop-s-test.false))) (λ lt. absurd (omega (arith, lt)))))
