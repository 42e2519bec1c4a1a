use Rattle.cover_cells.specs.Splitting.{AreTargetEdges}
use Rattle.cover_cells.proofs.targets.target_edges.Given as goal

abbrev pub invariant-loop-t : goal.invariant-loop-t
invariant-loop-t l = AreTargetEdges l.t l.cell.items
