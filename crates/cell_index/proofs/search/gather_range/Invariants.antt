use Rattle.cell_index.specs.Kept.{Gathers}
use Rattle.cell_index.proofs.Searches.{InRows}
use Rattle.cell_index.proofs.search.gather_range.Given as goal

abbrev pub invariant-loop-x : goal.invariant-loop-x
invariant-loop-x l = Gathers l.fn.found.items l.found.items (InRows l.cells l.s l.panel l.fn.r l.x)
