use Rattle.std.proofs.Common.{ap, ◌∙◌, sym, None, Some, if◌then◌else◌}
use Rattle.std.proofs.lemmas.Int.{to_z-of_z}
use Rattle.mesh_check.specs.Mesh.{corners_of}
use Rattle.cell_index.specs.declared.CellBox.{CellBox}
use Rattle.cell_index.specs.Box.{is_empty}
use Rattle.cell_index.proofs.FaceNodes.{box_fitted, box_whole}
use Rattle.cell_index.proofs.face_boxes.box_within.Goals as goal

pub fit-requires-clause-front : goal.fit-requires-clause-front
fit-requires-clause-front c = sym (c.lies_in_front.ensures (corners_of c.args.mesh.now c.args.face) c.requires.spans) ∙ c.if-lies_in_front.true

pub returns-then-lies_in_front : goal.returns-then-lies_in_front
returns-then-lies_in_front c =
    let fk = c.ranges.k in
    let vs = corners_of c.args.mesh.now c.args.face in
    let e = simp to_z-of_z at c.fit.ensures in
    c.unless_empty.ensures
    ∙ ap (λ (b : CellBox). if is_empty b then None else Some b) e
    ∙ box_fitted vs c.args.panel c.args.k c.requires.within (sym (c.lies_in_front.ensures vs c.requires.spans) ∙ c.if-lies_in_front.true)

pub returns-else-lies_in_front : goal.returns-else-lies_in_front
returns-else-lies_in_front c =
    let fk = c.ranges.k in
    let vs = corners_of c.args.mesh.now c.args.face in
    let e = simp to_z-of_z at c.whole.ensures in
    ap (λ (b : CellBox). Some b) e
    ∙ box_whole vs c.args.panel c.args.k c.requires.within (sym (c.lies_in_front.ensures vs c.requires.spans) ∙ c.if-lies_in_front.false)
