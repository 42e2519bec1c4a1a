use Rattle.std.proofs.Common.{◌≡◌, ◌∙◌, ◌-◌, arith, sym}
use Rattle.std.proofs.lemmas.Grind.{common_steps}
use Rattle.vec_exact.specs.Cycle.{face_plane}
use Rattle.vec_exact.proofs.Accepted.{length-face_nodes}
use Rattle.mesh_check.specs.Mesh.{face_of, corners_of}
use Rattle.mesh_check.proofs.Edges.{face_plane_nonzero}
use Rattle.mesh_check.proofs.mesh.plane.Goals as goal

pub returns-clause-nonzero : goal.returns-clause-nonzero
returns-clause-nonzero c =
    let mesh = c.args.mesh.now in
    let is : c.cross.result ≡ face_plane (corners_of mesh c.args.face) (c.args.edge - 1) = grind (arith, common_steps) in
    λ zero. face_plane_nonzero (corners_of mesh c.args.face) c.edge_count.ensures.accepted.accepted (c.args.edge - 1)
    (omega (arith, length-face_nodes mesh.nodes (face_of mesh c.args.face))) (sym is ∙ zero)
