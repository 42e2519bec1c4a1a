use Rattle.std.proofs.Common.{ℕ, ◌<◌}
use Rattle.cell_index.specs.Candidate.{SharesCell}
use Rattle.cell_index.specs.IndexOf.{at_panel}
use Rattle.cell_index.proofs.shared_cells.share.Given as goal

abbrev pub invariant-loop-p : goal.invariant-loop-p
invariant-loop-p l = (q : ℕ) → q < l.p → ¬ SharesCell (at_panel l.a.panel q) (at_panel l.b.panel q)
