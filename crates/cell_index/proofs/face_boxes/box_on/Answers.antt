use Rattle.std.proofs.Common.{◌∙◌, sym}
use Rattle.std.proofs.lemmas.Int.{to_z-of_z}
use Rattle.mesh_check.specs.Mesh.{corners_of}
use Rattle.cell_index.proofs.FaceNodes.{box_beyond}
use Rattle.cell_index.proofs.face_boxes.box_on.Goals as goal

pub returns-then-lies_beyond : goal.returns-then-lies_beyond
returns-then-lies_beyond c =
    let vs = corners_of c.args.mesh.now c.args.face in
    box_beyond vs c.args.panel c.args.k (sym (c.lies_beyond.ensures vs c.requires.spans) ∙ c.if-lies_beyond.true)

pub box_within-requires-clause-within : goal.box_within-requires-clause-within
box_within-requires-clause-within c = sym (c.lies_beyond.ensures (corners_of c.args.mesh.now c.args.face) c.requires.spans) ∙ c.if-lies_beyond.false

pub returns : goal.returns
returns c = let fk = c.ranges.k in simp to_z-of_z at c.box_within.ensures
