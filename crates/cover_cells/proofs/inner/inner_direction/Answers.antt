use Rattle.std.proofs.Common.{◌∙◌}
use Rattle.mesh_check.specs.Mesh.{corners_of}
use Rattle.cover_cells.proofs.ThreeCorners.{sum_in_cell}
use Rattle.cover_cells.proofs.inner.inner_direction.Goals as goal

pub returns-clause-inside : goal.returns-clause-inside
returns-clause-inside c =
    sum_in_cell c.args.a.now (corners_of c.args.b.now c.args.j) c.args.cell.now c.as_slice-planes.result.now
    c.corner_at.result c.corner_at-2.result c.corner_at-3.result c.sum_of_corners.result
    c.requires.cell (c.as_slice-planes.ensures.value ∙ c.cell.view_is) c.sum_of_corners.ensures.value
    c.corner_at.ensures.value c.corner_at-2.ensures.value c.corner_at-3.ensures.value
