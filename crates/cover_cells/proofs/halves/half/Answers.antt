use Rattle.std.proofs.Common.{List, sym, ◌∙◌, subst}
use Rattle.mesh_check.specs.Mesh.{corners_of}
use Rattle.cover_cells.specs.declared.cells.CellPlane.{CellPlane}
use Rattle.cover_cells.specs.Cells.{plane_of}
use Rattle.cover_cells.specs.Splitting.{IsHalf}
use Rattle.cover_cells.specs.Sides.{IsRunOf}
use Rattle.cover_cells.proofs.CellHalves.{are_sides, half_of_none, half_of_whole, half_of_run}
use Rattle.cover_cells.proofs.halves.half.Goals as goal

pub returns-in-Whole : goal.returns-in-Whole
returns-in-Whole c =
    let o = c.args.cell.now in
    let sources = c.args.a.now in let target = corners_of c.args.b.now c.args.j in
    let x = plane_of sources target c.args.p in
    subst (IsHalf sources target o c.args.p) (sym c.in_ok-copied-in-Whole.ensures)
    (half_of_whole sources target o c.args.p c.deref-2.result.now c.requires.cell
    (are_sides sources target o c.deref.result.now x c.plane_of.result c.in_ok-sides.sides.items c.deref-2.result.now
    c.in_ok-sides.ensures (c.deref.ensures.value ∙ c.cell.view_is) c.plane_of.ensures.value c.deref-2.ensures.value)
    (λ e. c.plane_of.ensures.nonzero (c.plane_of.ensures.value ∙ e)) c.in-Whole.ensures)

pub returns-in-Nothing : goal.returns-in-Nothing
returns-in-Nothing c =
    let o = c.args.cell.now in
    let sources = c.args.a.now in let target = corners_of c.args.b.now c.args.j in
    let x = plane_of sources target c.args.p in
    half_of_none sources target o c.args.p c.deref-2.result.now c.requires.cell
    (are_sides sources target o c.deref.result.now x c.plane_of.result c.in_ok-sides.sides.items c.deref-2.result.now
    c.in_ok-sides.ensures (c.deref.ensures.value ∙ c.cell.view_is) c.plane_of.ensures.value c.deref-2.ensures.value)
    c.in-Nothing.ensures

pub returns : goal.returns
returns c =
    let o = c.args.cell.now in
    let sources = c.args.a.now in let target = corners_of c.args.b.now c.args.j in
    let x = plane_of sources target c.args.p in
    half_of_run sources target o c.in_ok-items-in-Run.items.items c.args.p c.deref-2.result.now c.in-Run.first c.in-Run.count c.requires.cell c.requires.named
    (are_sides sources target o c.deref.result.now x c.plane_of.result c.in_ok-sides.sides.items c.deref-2.result.now
    c.in_ok-sides.ensures (c.deref.ensures.value ∙ c.cell.view_is) c.plane_of.ensures.value c.deref-2.ensures.value)
    c.in-Run.ensures
    (subst (λ (l : List CellPlane). IsRunOf l c.in_ok-items-in-Run.items.items c.in-Run.first c.in-Run.count c.args.p) (c.deref-in-Run.ensures.value ∙ c.cell.view_is) c.in_ok-items-in-Run.ensures)
