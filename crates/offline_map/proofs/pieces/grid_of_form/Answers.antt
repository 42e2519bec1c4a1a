use Rattle.std.proofs.Common.{ap, sym, subst, ◌∙◌}
use Rattle.vec_exact.specs.Face.{vector_of}
use Rattle.clip.specs.declared.forms.CornerForm.{CornerForm}
use Rattle.clip.specs.Forms.{IsFormOf}
use Rattle.piece_measure.specs.Grid.{grid_corner_of}
use Rattle.piece_measure.proofs.Multiples.{same_for_multiples}
use Rattle.offline_map.proofs.pieces.grid_of_form.Goals as goal

pub returns-in-Node-clause-value : goal.returns-in-Node-clause-value
returns-in-Node-clause-value c = λ d h.
    let n = subst (λ (x : CornerForm). IsFormOf x d) c.in-Node.is h in
    c.grid_node.ensures.value ∙ sym (same_for_multiples (vector_of c.in-Node.node) n.1.0 n.1.1) ∙ ap grid_corner_of (sym n.1.2)
