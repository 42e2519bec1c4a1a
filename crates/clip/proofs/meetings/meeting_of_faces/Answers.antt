use Rattle.std.proofs.Common.{ap, ◌∙◌, rules, FitsSigned, ℕ}
use Rattle.std.proofs.lemmas.Int.{to_z-of_z}
use mir.Syntax.{w64}
use Rattle.vec_exact.specs.Cycle.{after}
use Rattle.clip.specs.Narrow.{wide}
use Rattle.clip.specs.Outlines.{nodes_of}
use Rattle.clip.proofs.Meeting.{sub_read, sub_fits, sub_size, crossing_value}
use Rattle.clip.proofs.meetings.meeting_of_faces.Goals as goal

pub overflow_sub-result : goal.overflow_sub-result
overflow_sub-result c = sub_fits c.sides_product.result c.sides_product-2.result c.sides_product.ensures.size c.sides_product-2.ensures.size

pub returns-clause-size : goal.returns-clause-size
returns-clause-size c = sub_size c.sides_product.result c.sides_product-2.result c.sides_product.ensures.size c.sides_product-2.ensures.size

pub returns-clause-value : goal.returns-clause-value
returns-clause-value c =
    let f1 : FitsSigned w64 c.narrow_dot.result = search rules in let f2 : FitsSigned w64 c.narrow_dot-2.result = search rules in
    let f3 : FitsSigned w64 c.narrow_dot-3.result = search rules in let f4 : FitsSigned w64 c.narrow_dot-4.result = search rules in
    let p = simp to_z-of_z at c.sides_product.ensures.value in let r = simp to_z-of_z at c.sides_product-2.ensures.value in
    sub_read c.sides_product.result c.sides_product-2.result c.sides_product.ensures.size c.sides_product-2.ensures.size
    ∙ crossing_value (nodes_of c.args.face.now) c.args.t c.next_place.result (wide c.args.w) (wide c.args.q) (wide c.node_of-a.result) (wide c.node_of-b.result) _ _ _ _ _ _ p r
    c.narrow_dot.ensures.value c.narrow_dot-2.ensures.value c.narrow_dot-3.ensures.value c.narrow_dot-4.ensures.value c.node_of-a.ensures.value c.node_of-b.ensures.value
    (c.next_place.ensures.value ∙ ap (λ (k : ℕ). after k c.args.t) c.count_of.ensures.count)
