use Rattle.std.proofs.Common.{◌≡◌, length}
use Rattle.gen_ico.specs.Holding.{IsTableBelow}
use Rattle.gen_ico.proofs.holders.all_holders.Given as goal

abbrev pub invariant-loop-t : goal.invariant-loop-t
invariant-loop-t l = (length l.lists.items ≡ l.count) × IsTableBelow l.faces l.t l.lists.items
