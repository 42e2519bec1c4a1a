use Rattle.cell_index.specs.Kept.{Gathers, InPart}
use Rattle.cell_index.proofs.search.gather_part.Given as goal

abbrev pub invariant-loop-t : goal.invariant-loop-t
invariant-loop-t l = Gathers l.fn.found.items l.found.items (InPart l.faces l.from l.t)
