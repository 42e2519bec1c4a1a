use Rattle.std.proofs.Common.{ap, ◌∙◌}
use Rattle.vec_exact.specs.declared.Vec3.{Vec3}
use Rattle.cell_index.specs.Extents.{x_at, y_at, z_at}
use Rattle.vec_exact.specs.Face.{vector_of}
use Rattle.cell_index.proofs.Sides.{number_read, extent_first, pair_first}
use Rattle.cell_index.proofs.spans.spans_at.Goals as goal

pub returns : goal.returns
returns c = λ face e.
    let x = number_read (vector_of c.args.node).x c.requires.x ∙ ap (λ (v : Vec3). v.x) e in
    let y = number_read (vector_of c.args.node).y c.requires.y ∙ ap (λ (v : Vec3). v.y) e in
    let z = number_read (vector_of c.args.node).z c.requires.z ∙ ap (λ (v : Vec3). v.z) e in
    record {
      along_x = extent_first (x_at face) _ _ x c.extent_at.ensures;
      along_y = extent_first (y_at face) _ _ y c.extent_at-2.ensures;
      along_z = extent_first (z_at face) _ _ z c.extent_at-3.ensures;
      along_xy = pair_first (x_at face) (y_at face) _ _ _ x y c.pair_at.ensures.minus c.pair_at.ensures.plus;
      along_xz = pair_first (x_at face) (z_at face) _ _ _ x z c.pair_at-2.ensures.minus c.pair_at-2.ensures.plus;
      along_yz = pair_first (y_at face) (z_at face) _ _ _ y z c.pair_at-3.ensures.minus c.pair_at-3.ensures.plus;
    }
