use Rattle.std.proofs.Common.{◌++◌, ◌∷◌, [], List, length, ap, ◌∙◌, arith, length-append}
use Rattle.vec_exact.specs.declared.Vec3.{Vec3}
use Rattle.vec_exact.proofs.Accepted.{length-face_nodes}
use Rattle.vec_exact.specs.Cycle.{face_plane}
use Rattle.mesh_check.specs.Mesh.{face_of, corners_of}
use Rattle.clip.proofs.Pair.{first_edges, length-first_edges, one_more_edge, all_edges}
use Rattle.clip.proofs.pairs.push_planes.Goals as goal

pub push-requires : goal.push-requires
push-requires c =
    let f = corners_of c.args.mesh.now c.args.face in
    omega (
      arith,
      ap (length {A = Vec3}) c.loop-t.invariant,
      length-append c.args.planes.now.items (first_edges f c.loop-t.t),
      length-first_edges f c.loop-t.t,
      c.requires.room,
      c.loop-t-test.true,
      c.edge_count-t-end.ensures.greatest,
    )

pub loop-t-preserved : goal.loop-t-preserved
loop-t-preserved c =
    let f = corners_of c.args.mesh.now c.args.face in
    c.push.ensures.items ∙ ap (λ (qs : List Vec3). qs ++ c.plane.result ∷ []) c.loop-t.invariant
    ∙ one_more_edge c.args.planes.now.items f c.loop-t.t c.plane.result (c.plane.ensures.plane ∙ ap (face_plane f) (omega arith))

pub returns-clause-planes : goal.returns-clause-planes
returns-clause-planes c =
    let f = corners_of c.args.mesh.now c.args.face in
    c.loop-t.invariant
    ∙ ap (λ (qs : List Vec3). c.args.planes.now.items ++ qs)
    (all_edges f c.loop-t.t (omega (arith, c.edge_count-t-end.ensures.count, length-face_nodes c.args.mesh.now.nodes (face_of c.args.mesh.now c.args.face))))
