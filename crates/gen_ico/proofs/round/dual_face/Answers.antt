use Rattle.std.proofs.Common.{◌≡◌, ◌∙◌, ◌++◌, ◌+◌, ◌<◌, ℤ, pos, List, [], ◌∷◌, length, ap, arith, w32}
use Rattle.std.proofs.lemmas.Int.{ints, to_z-of_z}
use Rattle.gen_ico.specs.Dual.{faces_from, place_of}
use Rattle.gen_ico.proofs.Places.{along}
use Rattle.gen_ico.proofs.Steps.{dual_none, dual_some, first_below, first_place}
use Rattle.gen_ico.proofs.round.dual_face.Goals as goal

pub overflow_cast-first-2 : goal.overflow_cast-first-2
overflow_cast-first-2 c =
    let lt : c.in-Some.first.now < length c.args.faces.now = first_below c.args.faces.now c.args.holders.now c.args.p c.in-Some.first.now c.requires.holders c.in-Some.ensures.value in
    omega (arith, ints, lt, c.requires.count)

pub overflow_add-first : goal.overflow_add-first
overflow_add-first c =
    let lt : c.in-Some.first.now < length c.args.faces.now = first_below c.args.faces.now c.args.holders.now c.args.p c.in-Some.first.now c.requires.holders c.in-Some.ensures.value in
    omega (arith, ints, lt, c.requires.count)

pub corners-face-requires-clause-face : goal.corners-face-requires-clause-face
corners-face-requires-clause-face c = first_below c.args.faces.now c.args.holders.now c.args.p c.in-Some.first.now c.requires.holders c.in-Some.ensures.value

pub behind-h-requires-clause-place : goal.behind-h-requires-clause-place
behind-h-requires-clause-place c = first_place c.args.faces.now c.args.holders.now c.args.p c.in-Some.first.now c.corners-face.result.now c.place_of.result c.requires.holders c.in-Some.ensures.value c.corners-face.ensures.numbers (c.place_of.ensures.value ∙ ap (λ p. place_of p c.corners-face.result.now) (to_z-of_z w32 c.args.p c.ranges.p))

pub returns-in_default : goal.returns-in_default
returns-in_default c = dual_none c.args.faces.now c.args.holders.now c.args.p c.in_ok-out.out.items c.requires.holders c.in_default.ensures.value c.in_ok-out.ensures.items

put_one : (put out : List ℤ) (x y : ℤ) → put ≡ out ++ x ∷ [] → out ≡ [] → x ≡ y → put ≡ y ∷ []
put_one put out x y e empty same = e ∙ ap (λ (l : List ℤ). l ++ x ∷ []) empty ∙ ap (λ (z : ℤ). z ∷ []) same

pub returns : goal.returns
returns c =
    let a = c.args in
    let t = c.in-Some.first.now in
    let lt : t < length a.faces.now = first_below a.faces.now a.holders.now a.p t c.requires.holders c.in-Some.ensures.value in
    dual_some a.faces.now a.holders.now a.p t c.corners-face.result.now c.place_of.result c.behind-h.result c.push.new.self.items _ c.requires.holders c.in-Some.ensures.value c.corners-face.ensures.numbers
    (c.place_of.ensures.value ∙ ap (λ p. place_of p c.corners-face.result.now) (to_z-of_z w32 a.p c.ranges.p))
    c.behind-h.ensures
    (put_one c.push.new.self.items c.in_ok-out.out.items _ (pos (t + 1)) c.in_ok-push.ensures.items c.in_ok-out.ensures.items (omega (arith, ints, lt, c.requires.count)))
    (along (λ p h. c.put_others.new.out.items ≡ c.push.new.self.items ++ faces_from a.faces.now p t h 16) _ a.p _ c.behind-h.result (to_z-of_z w32 a.p c.ranges.p) (to_z-of_z w32 c.behind-h.result (record { sfits = c.behind-h.type_inv })) c.in_ok-put_others.ensures)
