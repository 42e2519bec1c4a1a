use Rattle.std.proofs.Common.{◌≡◌, ◌++◌, map, option_map, length}
use Rattle.command_line.specs.Items.{items_of}
use Rattle.command_line.specs.Words.{texts}
use Rattle.command_line.specs.Views.{item_of}
use Rattle.command_line.proofs.items.items_in.Given as goal

abbrev pub invariant-loop-rest : goal.invariant-loop-rest
invariant-loop-rest l = option_map (λ found. map item_of l.items.items ++ found) (items_of (texts l.rest)) ≡ items_of (texts l.words)

abbrev pub decreases-loop-rest : goal.decreases-loop-rest
decreases-loop-rest l = length l.rest
