use Rattle.std.proofs.Common.{rules, FitsSigned, slice_index_or, pos}
use Rattle.std.proofs.lemmas.Int.{to_z-of_z}
use mir.Syntax.{w32}
use Rattle.vec_exact.specs.Face.{vector_of}
use Rattle.piece_measure.proofs.Rounding.{grid_corner_is}
use Rattle.piece_measure.proofs.grid.grid_node.Goals as goal

pub returns-clause-value : goal.returns-clause-value
returns-clause-value c =
    let rx : FitsSigned w32 c.node_on_grid.result = search rules in let ry : FitsSigned w32 c.node_on_grid-2.result = search rules in
    let rz : FitsSigned w32 c.node_on_grid-3.result = search rules in
    let fx : FitsSigned w32 (slice_index_or c.args.node 0 (pos 0)) = search rules in let fy : FitsSigned w32 (slice_index_or c.args.node 1 (pos 0)) = search rules in
    let fz : FitsSigned w32 (slice_index_or c.args.node 2 (pos 0)) = search rules in
    simp to_z-of_z
    (grid_corner_is (vector_of c.args.node) _ _ _ c.node_size-size.result c.node_size-size.ensures.value
    (simp to_z-of_z at c.node_on_grid.ensures.value) (simp to_z-of_z at c.node_on_grid-2.ensures.value) (simp to_z-of_z at c.node_on_grid-3.ensures.value))
