use Rattle.cell_index.specs.Kept.{Gathers, InPanels}
use Rattle.cell_index.proofs.search.gather_cells.Given as goal

abbrev pub invariant-loop-p : goal.invariant-loop-p
invariant-loop-p l = Gathers l.fn.found.items l.found.items (InPanels l.cells l.k l.own.panel l.p)
