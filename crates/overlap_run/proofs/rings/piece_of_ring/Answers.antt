use Rattle.std.proofs.Common.{ap₂, subst, arith}
use Rattle.vec_exact.specs.Face.{IsAcceptedFace}
use Rattle.cone_laws.specs.Ring.{planes_of_pair}
use Rattle.mesh_check.specs.Mesh.{corners_of}
use Rattle.clip.specs.Outlines.{nodes_of}
use Rattle.clip.proofs.RingFacts.{ring_greatest_size, ring_numbers}
use Rattle.overlap_run.proofs.RingCorners.{corner_nonzero, piece_at, numbers_of_ring}
use Rattle.overlap_run.proofs.rings.piece_of_ring.Goals as goal

pub grid_corners-requires-clause-numbers : goal.grid_corners-requires-clause-numbers
grid_corners-requires-clause-numbers c =
    numbers_of_ring c.args.f.now c.args.g.now (corners_of c.args.a.now c.args.i) (corners_of c.args.b.now c.args.j) c.args.ring.items c.requires.f_nodes c.requires.g_nodes
    (subst IsAcceptedFace c.requires.f_nodes c.requires.f.accepted) (subst IsAcceptedFace c.requires.g_nodes c.requires.g.accepted) c.requires.ring

pub grid_corners-requires-clause-nonzero : goal.grid_corners-requires-clause-nonzero
grid_corners-requires-clause-nonzero c =
    corner_nonzero (corners_of c.args.a.now c.args.i) (corners_of c.args.b.now c.args.j) (planes_of_pair (nodes_of c.args.f.now) (nodes_of c.args.g.now)) c.args.ring.items
    (ap₂ planes_of_pair c.requires.f_nodes c.requires.g_nodes) c.requires.ring

pub returns-clause-piece : goal.returns-clause-piece
returns-clause-piece c =
    piece_at c.args.a.now c.args.b.now _ (planes_of_pair (nodes_of c.args.f.now) (nodes_of c.args.g.now))
    (ap₂ planes_of_pair c.requires.f_nodes c.requires.g_nodes) c.requires.source c.requires.target
    (subst IsAcceptedFace c.requires.f_nodes c.requires.f.accepted) (subst IsAcceptedFace c.requires.g_nodes c.requires.g.accepted)
    c.requires.ring c.in_ok-corners.ensures

pub returns-clause-small : goal.returns-clause-small
returns-clause-small c =
    let f = subst IsAcceptedFace c.requires.f_nodes c.requires.f.accepted in
    let g = subst IsAcceptedFace c.requires.g_nodes c.requires.g.accepted in
    let l = c.args.ring.items in
    record {
      source = omega (arith, c.requires.source.1, c.face_count-source_faces.ensures.accepted.counts.face_limit);
      target = omega (arith, c.requires.target.1, c.face_count-target_faces.ensures.accepted.counts.face_limit);
      greatest_size = ring_greatest_size (corners_of c.args.a.now c.args.i) (corners_of c.args.b.now c.args.j) l f g c.requires.ring;
      numbers = ring_numbers (corners_of c.args.a.now c.args.i) (corners_of c.args.b.now c.args.j) l f g c.requires.ring;
    }
