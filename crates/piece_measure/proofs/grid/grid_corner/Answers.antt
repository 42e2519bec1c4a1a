use Rattle.std.proofs.Common.{◌≡◌, ◌<◌, pos, ◌*ℤ◌, rules, FitsSigned}
use Rattle.std.proofs.lemmas.Int.{to_z-of_z}
use mir.Syntax.{w32, w128}
use Rattle.vec_exact.specs.Rounding.{rounded}
use Rattle.piece_measure.proofs.Rounding.{grid_corner_is, grid_reached, size_positive}
use Rattle.piece_measure.proofs.grid.grid_corner.Goals as goal

-- the three components, as the grid has them
record Components (c : goal.After-on_grid-3) : Type 0 where
  x : c.on_grid.result ≡ rounded (c.args.c.x *ℤ pos 268435456) c.component_size-size.result
  y : c.on_grid-2.result ≡ rounded (c.args.c.y *ℤ pos 268435456) c.component_size-size.result
  z : c.on_grid-3.result ≡ rounded (c.args.c.z *ℤ pos 268435456) c.component_size-size.result

components : (c : goal.After-on_grid-3) → Components c
components c =
    let fx : FitsSigned w128 c.args.c.x = search rules in let fy : FitsSigned w128 c.args.c.y = search rules in
    let fz : FitsSigned w128 c.args.c.z = search rules in
    record {
      x = simp to_z-of_z at c.on_grid.ensures.value;
      y = simp to_z-of_z at c.on_grid-2.ensures.value;
      z = simp to_z-of_z at c.on_grid-3.ensures.value;
    }

pub returns-clause-value : goal.returns-clause-value
returns-clause-value c =
    let rx : FitsSigned w32 c.on_grid.result = search rules in let ry : FitsSigned w32 c.on_grid-2.result = search rules in
    let rz : FitsSigned w32 c.on_grid-3.result = search rules in
    let h = components c in
    simp to_z-of_z (grid_corner_is c.args.c _ _ _ c.component_size-size.result c.component_size-size.ensures h.x h.y h.z)

pub returns-clause-reached : goal.returns-clause-reached
returns-clause-reached c =
    let rx : FitsSigned w32 c.on_grid.result = search rules in let ry : FitsSigned w32 c.on_grid-2.result = search rules in
    let rz : FitsSigned w32 c.on_grid-3.result = search rules in
    let h = components c in
    let some : 0 < c.component_size-size.result = rw c.component_size-size.ensures (size_positive c.args.c c.requires.nonzero) in
    simp to_z-of_z (grid_reached c.args.c _ _ _ c.component_size-size.result some c.component_size-size.ensures h.x h.y h.z)
