use Rattle.std.proofs.Common.{subst, refl}
use Rattle.vec_exact.specs.Face.{IsAcceptedFace}
use Rattle.mesh_check.specs.Mesh.{corners_of}
use Rattle.clip.specs.Outlines.{nodes_of}
use Rattle.clip.proofs.PairAnswers.{answer_of, says_meets, says_ring, says_bounds}
use Rattle.clip.proofs.pairs.clip_next.Goals as goal

pub returns-clause-meets : goal.returns-clause-meets
returns-clause-meets _ c =
    let f = corners_of c.args.a.now c.args.i in
    let g = corners_of c.args.b.now c.args.j in
    says_meets c.ring_with_next.result f g (subst IsAcceptedFace c.requires.source c.requires.f.accepted) c.ring_with_next.ensures.accepted
    (answer_of c.ring_with_next.result f g (nodes_of c.args.f.now) g c.requires.source refl c.ring_with_next.ensures.ring)

pub returns-clause-ring : goal.returns-clause-ring
returns-clause-ring _ c =
    let f = corners_of c.args.a.now c.args.i in
    let g = corners_of c.args.b.now c.args.j in
    says_ring c.ring_with_next.result f g (answer_of c.ring_with_next.result f g (nodes_of c.args.f.now) g c.requires.source refl c.ring_with_next.ensures.ring)

pub returns-clause-bounds : goal.returns-clause-bounds
returns-clause-bounds _ c =
    let f = corners_of c.args.a.now c.args.i in
    let g = corners_of c.args.b.now c.args.j in
    says_bounds c.ring_with_next.result f g (subst IsAcceptedFace c.requires.source c.requires.f.accepted) c.ring_with_next.ensures.accepted
    (answer_of c.ring_with_next.result f g (nodes_of c.args.f.now) g c.requires.source refl c.ring_with_next.ensures.ring)
