use Rattle.std.proofs.Common.{ℕ, sym, ap, subst, ◌∙◌}
use Rattle.vec_exact.specs.Size.{Is18}
use Rattle.vec_exact.specs.Face.{vector_of}
use Rattle.vec_exact.specs.Cycle.{after}
use Rattle.clip.specs.Outlines.{nodes_of}
use Rattle.clip.proofs.FormFacts.{node_form}
use Rattle.clip.proofs.forms.form_in_face.Goals as goal

pub returns-then-next_place-s : goal.returns-then-next_place-s
returns-then-next_place-s c =
    let f = nodes_of c.args.face.now in (
      subst Is18 (sym c.numbers_in.ensures) c.node_of.ensures.size,
      node_form f c.args.t c.args.s (vector_of c.numbers_in.result) c.requires.face.accepted c.requires.first
          (ap (λ (k : ℕ). after k c.args.t) (sym c.count_of.ensures.count) ∙ sym c.next_place.ensures.value ∙ c.if-next_place-s.true)
          (c.numbers_in.ensures ∙ c.node_of.ensures.value),
    )
