use Rattle.std.proofs.Common.{◌≡◌, ℕ, List, length, subst, sym, ◌∙◌, arith}
use Rattle.vec_exact.specs.declared.Vec3.{Vec3}
use Rattle.vec_exact.proofs.Accepted.{length-face_nodes}
use Rattle.mesh_check.specs.Mesh.{face_of, corners_of}
use Rattle.clip.specs.Planes.{AreEdgesOf}
use Rattle.clip.proofs.Pair.{first_of_pair}
use Rattle.crate_rows.proofs.clipping.one_more_plane.Goals as goal

pub start-ring-requires : goal.start-ring-requires
start-ring-requires g c =
    let f = corners_of c.face_mesh-octant.result 1 in
    let d = c.planes-planes.ensures in
    let n : length f ≡ 3 = length-face_nodes c.face_mesh-octant.result.nodes (face_of c.face_mesh-octant.result 1) ∙ sym c.edge_count.ensures.count ∙ omega arith in
    record {
      edges = (
        f,
        subst (λ (m : ℕ). AreEdgesOf f c.planes-planes.result.items m) n
            (subst (λ (ps : List Vec3). AreEdgesOf f ps (length f)) (sym d.planes) (first_of_pair f (corners_of c.face_mesh-face.result 1) d.source)),
      );
    }
