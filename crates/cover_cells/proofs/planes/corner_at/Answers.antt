use Rattle.mesh_check.specs.Mesh.{corners_of}
use Rattle.cover_cells.specs.Cells.{plane_of}
use Rattle.cover_cells.proofs.CellHalves.{corner_is}
use Rattle.cover_cells.proofs.planes.corner_at.Goals as goal

pub returns-clause-value : goal.returns-clause-value
returns-clause-value c =
    corner_is (plane_of c.args.a.now (corners_of c.args.b.now c.args.j)) c.args.cell.now c.args.t c.next_place-next.result _
    c.plane_of.result c.plane_of-2.result c.cross.result c.requires.place c.next_place-next.ensures.below
    c.cross.ensures.value c.plane_of.ensures.value c.plane_of-2.ensures.value c.next_place-next.ensures.value
