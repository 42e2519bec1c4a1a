use Rattle.std.proofs.Common.{◌-◌, ℕ, arith, sym, ap, ◌∙◌}
use Rattle.vec_exact.specs.Cycle.{face_plane}
use Rattle.cone_laws.specs.Ring.{planes_of_pair}
use Rattle.clip.specs.Outlines.{nodes_of}
use Rattle.clip.proofs.Meeting.{first_at, second_at}
use Rattle.clip.proofs.FormFacts.{form_at}
use Rattle.clip.proofs.forms.form_of.Goals as goal

pub returns-then-second-m : goal.returns-then-second-m
returns-then-second-m c =
    let f = nodes_of c.args.f.now in let g = nodes_of c.args.g.now in
    let m = c.count_of-m.ensures.count in
    form_at c.form_in_face.result (planes_of_pair f g) c.args.i c.args.j (face_plane f (c.args.i - 1)) (face_plane f (c.args.j - 1))
    (first_at f g c.args.i c.requires.first.0 (omega (arith, m))) (first_at f g c.args.j c.requires.second.0 (omega (arith, m))) c.form_in_face.ensures

pub returns-then-m-second : goal.returns-then-m-second
returns-then-m-second c =
    let f = nodes_of c.args.f.now in let g = nodes_of c.args.g.now in
    let m = c.count_of-m.ensures.count in
    form_at c.form_in_face-then-m-second.result (planes_of_pair f g) c.args.i c.args.j (face_plane g (c.args.i - c.count_of-m.result - 1)) (face_plane g (c.args.j - c.count_of-m.result - 1))
    (second_at f g c.args.i (omega (arith, m)) c.requires.first.1 ∙ ap (λ (k : ℕ). face_plane g (c.args.i - k - 1)) (sym m))
    (second_at f g c.args.j (omega (arith, m)) c.requires.second.1 ∙ ap (λ (k : ℕ). face_plane g (c.args.j - k - 1)) (sym m)) c.form_in_face-then-m-second.ensures
