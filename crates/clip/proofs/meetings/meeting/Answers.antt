use Rattle.std.proofs.Common.{◌≡◌, ap, ◌∙◌, sym, rules, FitsSigned, length, arith, ℕ, ◌-◌, neg_ℤ}
use Rattle.std.proofs.lemmas.Int.{to_z-of_z}
use mir.Syntax.{w128}
use Rattle.vec_exact.specs.Side.{sign_of}
use Rattle.vec_exact.specs.Cycle.{face_plane}
use Rattle.cone_laws.specs.Ring.{planes_of_pair}
use Rattle.clip.specs.Narrow.{wide}
use Rattle.clip.specs.Outlines.{nodes_of}
use Rattle.clip.proofs.Meeting.{first_at, second_at, at_planes, neg_read, crossed_back}
use Rattle.clip.proofs.meetings.meeting.Goals as goal

pub returns-then-second-m : goal.returns-then-second-m
returns-then-second-m c =
    let f = nodes_of c.args.f.now in let g = nodes_of c.args.g.now in
    let m : c.count_of-m.result ≡ length f = c.count_of-m.ensures.count in
    let fits : FitsSigned w128 c.meeting_in_face.result = search rules in
    at_planes (planes_of_pair f g) c.args.i c.args.j (wide c.args.w) _ _ _
    (first_at f g c.args.i c.requires.first.0 (omega (arith, m, c.if-first-m.true))) (first_at f g c.args.j c.requires.second.0 (omega (arith, m, c.if-second-m.true)))
    (ap sign_of (to_z-of_z w128 c.meeting_in_face.result fits) ∙ c.meeting_in_face.ensures)

pub returns-else-second-m : goal.returns-else-second-m
returns-else-second-m c =
    let f = nodes_of c.args.f.now in let g = nodes_of c.args.g.now in
    let m : c.count_of-m.result ≡ length f = c.count_of-m.ensures.count in
    let fits : FitsSigned w128 c.meeting_of_faces.result = search rules in
    at_planes (planes_of_pair f g) c.args.i c.args.j (wide c.args.w) _ (wide c.plane_of-q.result) _
    (first_at f g c.args.i c.requires.first.0 (omega (arith, m, c.if-first-m.true)))
    (second_at f g c.args.j (omega (arith, m, c.if-second-m.false)) c.requires.second.1 ∙ ap (λ (k : ℕ). face_plane g (c.args.j - k - 1)) (sym m) ∙ sym c.plane_of-q.ensures.value)
    (ap sign_of (to_z-of_z w128 c.meeting_of_faces.result fits ∙ c.meeting_of_faces.ensures.value))

pub returns-then-second-m-2 : goal.returns-then-second-m-2
returns-then-second-m-2 c =
    let f = nodes_of c.args.f.now in let g = nodes_of c.args.g.now in
    let m : c.count_of-m.result ≡ length f = c.count_of-m.ensures.count in
    let p = face_plane f (c.args.j - 1) in
    let r = c.meeting_of_faces-then-second-m-2 in
    at_planes (planes_of_pair f g) c.args.i c.args.j (wide c.args.w) (wide c.plane_of-q-then-second-m-2.result) p _
    (second_at f g c.args.i (omega (arith, m, c.if-first-m.false)) c.requires.first.1 ∙ ap (λ (k : ℕ). face_plane g (c.args.i - k - 1)) (sym m) ∙ sym c.plane_of-q-then-second-m-2.ensures.value)
    (first_at f g c.args.j c.requires.second.0 (omega (arith, m, c.if-second-m-2.true)))
    (ap sign_of (neg_read r.result r.ensures.size ∙ ap neg_ℤ r.ensures.value ∙ sym (crossed_back (wide c.args.w) p (wide c.plane_of-q-then-second-m-2.result))))

pub returns-else-second-m-2 : goal.returns-else-second-m-2
returns-else-second-m-2 c =
    let f = nodes_of c.args.f.now in let g = nodes_of c.args.g.now in
    let m : c.count_of-m.result ≡ length f = c.count_of-m.ensures.count in
    let r = c.meeting_in_face-else-second-m-2 in
    let fits : FitsSigned w128 c.meeting_in_face-else-second-m-2.result = search rules in
    at_planes (planes_of_pair f g) c.args.i c.args.j (wide c.args.w) _ _ _
    (second_at f g c.args.i (omega (arith, m, c.if-first-m.false)) c.requires.first.1 ∙ ap (λ (k : ℕ). face_plane g (c.args.i - k - 1)) (sym m))
    (second_at f g c.args.j (omega (arith, m, c.if-second-m-2.false)) c.requires.second.1 ∙ ap (λ (k : ℕ). face_plane g (c.args.j - k - 1)) (sym m))
    (ap sign_of (to_z-of_z w128 c.meeting_in_face-else-second-m-2.result fits) ∙ c.meeting_in_face-else-second-m-2.ensures)
