use Rattle.std.proofs.Common.{◌≡◌, ap, ◌∙◌, sym, rules, FitsSigned, arith, ℕ, ℤ, to_z, of_z}
use Rattle.std.proofs.lemmas.Int.{ints}
use mir.Syntax.{w64, w128}
use Rattle.vec_exact.specs.Vector.{inner}
use Rattle.vec_exact.specs.Cycle.{after}
use Rattle.clip.specs.Narrow.{wide}
use Rattle.clip.specs.Outlines.{nodes_of}
use Rattle.clip.proofs.Meeting.{adjacent}
use Rattle.clip.proofs.meetings.meeting_in_face.Goals as goal

from_small : (x y : ℤ) → x ≡ to_z w64 (of_z w64 y) → FitsSigned w64 y → to_z w128 (of_z w128 x) ≡ y
from_small x y e f = omega (arith, ints, e)

pub returns-then-next_place-s : goal.returns-then-next_place-s
returns-then-next_place-s c =
    let f = nodes_of c.args.face.now in
    let fits : FitsSigned w64 c.narrow_dot.result = search rules in
    adjacent f c.args.t c.args.s (wide c.args.w) _ c.requires.face.accepted c.requires.first
    (ap (λ (k : ℕ). after k c.args.t) (sym c.count_of.ensures.count) ∙ sym c.next_place.ensures.value ∙ c.if-next_place-s.true)
    (from_small c.from.result c.narrow_dot.result c.from.ensures fits ∙ c.narrow_dot.ensures.value ∙ ap (inner (wide c.args.w)) c.node_of.ensures.value)
