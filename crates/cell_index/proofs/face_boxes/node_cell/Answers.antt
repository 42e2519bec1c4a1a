use Rattle.std.proofs.Common.{arith, sym, subst, pos, ◌<ℤ◌}
use Rattle.std.proofs.lemmas.Int.{ints}
use Rattle.mesh_check.specs.Mesh.{corners_of}
use Rattle.cell_index.specs.declared.coordinates.Coordinates.{Coordinates}
use Rattle.cell_index.proofs.FaceNodes.{front_at}
use Rattle.cell_index.proofs.face_boxes.node_cell.Goals as goal

pub floor_at-requires-clause-front : goal.floor_at-requires-clause-front
floor_at-requires-clause-front c =
    let h : pos 0 <ℤ c.see-at.result.w =
    subst (λ (d : Coordinates). pos 0 <ℤ d.w) (sym c.see-at.ensures.value) (front_at (corners_of c.args.mesh.now c.args.face) c.args.panel c.args.t c.requires.front c.requires.place) in
    omega (arith, ints)

pub floor_at-requires-2-clause-front : goal.floor_at-requires-2-clause-front
floor_at-requires-2-clause-front c =
    let h : pos 0 <ℤ c.see-at.result.w =
    subst (λ (d : Coordinates). pos 0 <ℤ d.w) (sym c.see-at.ensures.value) (front_at (corners_of c.args.mesh.now c.args.face) c.args.panel c.args.t c.requires.front c.requires.place) in
    omega (arith, ints)
