use Rattle.std.proofs.Common.{ap, ◌∙◌}
use Rattle.vec_exact.specs.declared.Vec3.{Vec3}
use Rattle.cell_index.specs.Extents.{x_at, y_at, z_at}
use Rattle.vec_exact.specs.Face.{vector_of}
use Rattle.cell_index.proofs.Sides.{number_read, extent_more, pair_more}
use Rattle.cell_index.proofs.spans.with_node.Goals as goal

pub returns : goal.returns
returns c = λ face t h e.
    let x = number_read (vector_of c.args.node).x c.requires.x ∙ ap (λ (v : Vec3). v.x) e in
    let y = number_read (vector_of c.args.node).y c.requires.y ∙ ap (λ (v : Vec3). v.y) e in
    let z = number_read (vector_of c.args.node).z c.requires.z ∙ ap (λ (v : Vec3). v.z) e in
    let a = c.extended.ensures in
    let b = c.extended-2.ensures in
    let d = c.extended-3.ensures in
    let p = c.pair_extended.ensures in
    let q = c.pair_extended-2.ensures in
    let r = c.pair_extended-3.ensures in
    record {
      along_x = extent_more (x_at face) t _ _ _ h.along_x x a.least a.greatest;
      along_y = extent_more (y_at face) t _ _ _ h.along_y y b.least b.greatest;
      along_z = extent_more (z_at face) t _ _ _ h.along_z z d.least d.greatest;
      along_xy = pair_more (x_at face) (y_at face) t _ _ _ _ h.along_xy x y p.minus_least p.minus_greatest p.plus_least p.plus_greatest;
      along_xz = pair_more (x_at face) (z_at face) t _ _ _ _ h.along_xz x z q.minus_least q.minus_greatest q.plus_least q.plus_greatest;
      along_yz = pair_more (y_at face) (z_at face) t _ _ _ _ h.along_yz y z r.minus_least r.minus_greatest r.plus_least r.plus_greatest;
    }
