use Rattle.std.proofs.Common.{◌↔◌, List, IsTrue, subst}
use Rattle.vec_exact.specs.declared.Vec3.{Vec3}
use Rattle.cone_laws.specs.Ring.{IsRing}
use Rattle.mesh_check.specs.Mesh.{corners_of}
use Rattle.clip.specs.Outlines.{nodes_of}
use Rattle.clip.proofs.pairs.is_ring.Goals as goal

pub returns : goal.returns
returns c =
    let r = c.args.ring.now.items in
    let t = c.is_ring_of_outlines.result in
    subst (λ (g : List Vec3). IsTrue t ↔ IsRing (corners_of c.args.a.now c.args.i) g r) c.outline_of-2.ensures.nodes
    (subst (λ (f : List Vec3). IsTrue t ↔ IsRing f (nodes_of c.outline_of-2.result) r) c.outline_of.ensures.nodes c.is_ring_of_outlines.ensures)
