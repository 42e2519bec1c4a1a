use Rattle.cell_index.specs.Kept.{Takes, InPart}
use Rattle.cell_index.proofs.search.take_part.Given as goal

abbrev pub invariant-loop-t : goal.invariant-loop-t
invariant-loop-t l = Takes l.own.panel l.all l.fn.found.items l.found.items (InPart l.faces l.from l.t)
