use Rattle.mesh_check.specs.Mesh.{corners_of}
use Rattle.cell_index.specs.Extents.{AreFirstSpans}
use Rattle.cell_index.proofs.spans.spans_of.Given as goal

abbrev pub invariant-loop-t : goal.invariant-loop-t
invariant-loop-t l = AreFirstSpans (corners_of l.mesh l.face) l.t l.spans
