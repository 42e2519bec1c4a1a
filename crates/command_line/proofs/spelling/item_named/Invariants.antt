use Rattle.std.proofs.Common.{◌≡◌, map, drop}
use Rattle.command_line.specs.Words.{at}
use Rattle.command_line.specs.Views.{item_of}
use Rattle.command_line.proofs.spelling.item_named.Given as goal

abbrev pub invariant-loop-item : goal.invariant-loop-item
invariant-loop-item l = at (map item_of (drop l.item-index l.items)) l.name ≡ at (map item_of l.items) l.name
