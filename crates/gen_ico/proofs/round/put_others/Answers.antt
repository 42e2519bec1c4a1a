use Rattle.std.proofs.Common.{◌≡◌, ◌∙◌, ◌++◌, ◌+◌, ◌<◌, pos, [], ◌∷◌, length, inl, inr, ap, arith, w32}
use Rattle.std.proofs.lemmas.Int.{ints, to_z-of_z}
use Rattle.gen_ico.specs.Dual.{faces_from}
use Rattle.gen_ico.proofs.Places.{along}
use Rattle.gen_ico.proofs.Steps.{has_place, walk_full, walk_next, walk_stops}
use Rattle.gen_ico.proofs.round.put_others.Goals.{then-t-faces-via-then-t-faces, then-t-faces-via-else-t-faces+then-t-first}
use Rattle.gen_ico.proofs.round.put_others.Goals as goal

pub returns-then-t-faces : goal.returns-then-t-faces
returns-then-t-faces c =
    let a = c.args in
    along (λ p h. c.loop-step.out.items ≡ a.out.now.items ++ faces_from a.faces.now p a.first h 16) _ a.p _ a.h (to_z-of_z w32 a.p c.ranges.p) (to_z-of_z w32 a.h c.ranges.h)
    (walk_stops a.faces.now _ a.first _ c.least_followed-t.result c.loop-step.step c.loop-step.out.items _ c.loop-step.invariant c.loop-step-test.true c.least_followed-t.ensures.value
    (elim c.then-t-faces.branch [ then-t-faces-via-then-t-faces w ↦ inl (omega (arith, w.if-t-faces)) | then-t-faces-via-else-t-faces+then-t-first w ↦ inr (omega (arith, w.if-t-first)) ]))

pub behind-h-requires-clause-place : goal.behind-h-requires-clause-place
behind-h-requires-clause-place c =
    let lt : c.least_followed-t.result < length c.args.faces.now = omega (arith, c.if-t-faces.false, c.least_followed-t.ensures.within) in
    has_place c.args.faces.now _ _ c.least_followed-t.result c.corners-face.result.now c.place_followed.result c.least_followed-t.ensures.value lt c.corners-face.ensures.numbers c.place_followed.ensures.value

pub loop-step-preserved : goal.loop-step-preserved
loop-step-preserved c =
    let t = c.least_followed-t.result in
    let lt : t < length c.args.faces.now = omega (arith, c.if-t-faces.false, c.least_followed-t.ensures.within) in
    let pushed : c.push.new.self.items ≡ c.loop-step.out.items ++ pos (t + 1) ∷ [] = c.in_ok-push.ensures.items ∙ ap (λ x. c.loop-step.out.items ++ x ∷ []) (omega (arith, ints, lt, c.requires.count)) in
    walk_next c.args.faces.now _ c.args.first _ t c.loop-step.step c.loop-step.out.items c.push.new.self.items _ _ c.corners-face.result.now c.place_followed.result c.loop-step.invariant c.loop-step-test.true c.least_followed-t.ensures.value lt c.if-t-first.false pushed c.corners-face.ensures.numbers c.place_followed.ensures.value (to_z-of_z w32 c.behind-h.result (record { sfits = c.behind-h.type_inv }) ∙ c.behind-h.ensures)

pub returns : goal.returns
returns c =
    let a = c.args in
    along (λ p h. c.loop-step.out.items ≡ a.out.now.items ++ faces_from a.faces.now p a.first h 16) _ a.p _ a.h (to_z-of_z w32 a.p c.ranges.p) (to_z-of_z w32 a.h c.ranges.h)
    (walk_full a.faces.now _ a.first _ c.loop-step.step c.loop-step.out.items _ c.loop-step.invariant c.loop-step-test.false)
