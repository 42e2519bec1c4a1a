use Rattle.std.proofs.Common.{◌≡◌, ◌-◌, length, arith, sym, ap, ◌∙◌}
use Rattle.vec_exact.specs.Cycle.{face_plane}
use Rattle.clip.specs.Outlines.{nodes_of}
use Rattle.clip.proofs.Meeting.{first_at, second_at}
use Rattle.clip.proofs.forms.plane_number.Goals as goal

pub returns-then-place-m-clause-value : goal.returns-then-place-m-clause-value
returns-then-place-m-clause-value c =
    let f = nodes_of c.args.f.now in let g = nodes_of c.args.g.now in
    c.widened.ensures ∙ c.plane_of.ensures.value ∙ sym (first_at f g c.args.i c.requires.number.0 (omega (arith, c.count_of-m.ensures.count, c.if-place-m.true)))

pub returns-else-place-m-clause-value : goal.returns-else-place-m-clause-value
returns-else-place-m-clause-value c =
    let f = nodes_of c.args.f.now in let g = nodes_of c.args.g.now in
    let m = c.count_of-m.ensures.count in
    let e : c.args.i - 1 - c.count_of-m.result ≡ c.args.i - length f - 1 = omega (arith, m) in
    c.widened-else-place-m.ensures ∙ c.plane_of-else-place-m.ensures.value ∙ ap (face_plane g) e
    ∙ sym (second_at f g c.args.i (omega (arith, m, c.if-place-m.false, c.requires.number.0)) c.requires.number.1)
