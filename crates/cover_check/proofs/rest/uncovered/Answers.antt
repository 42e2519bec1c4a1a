use Rattle.std.proofs.Common.{◌≡◌, List, true, length, slice_index_or, ap, ◌∙◌, subst, arith}
use Rattle.mesh_check.specs.Mesh.{corners_of}
use Rattle.cover_cells.specs.declared.cells.CellPlane.{CellPlane}
use Rattle.cover_cells.specs.Cells.{is_in_cell}
use Rattle.cover_cells.proofs.Counts.{counts_held}
use Rattle.cover_check.proofs.rest.uncovered.Goals as goal

pub returns-clause-covered : goal.returns-clause-covered
returns-clause-covered c =
    let sources = c.args.a.now in let target = corners_of c.args.b.now c.args.j in
    let cells = c.in_ok-cells.cells in
    let cell : List CellPlane = c.in-Some.cell.now in
    let first = c.in-Some.ensures.item.3 in
    let same : c.deref.result.now ≡ cells = c.deref.ensures.value ∙ c.cells.view_is in
    let d = c.inner_direction.result in
    let at : cell ≡ slice_index_or cells 0 cell = first.1 cell ∙ ap (λ (l : List (List CellPlane)). slice_index_or l 0 cell) same in
    c.in_ok-cells.ensures.uncovered d
    (counts_held sources target d cells 0 cell (omega (arith, first.0, ap length same))
    (subst (λ (o : List CellPlane). is_in_cell sources target d o ≡ true) at c.inner_direction.ensures.inside))
