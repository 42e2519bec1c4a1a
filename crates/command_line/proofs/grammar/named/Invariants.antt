use Rattle.std.proofs.Common.{◌≡◌, ◌++◌, map, drop}
use Rattle.std.specs.Option.{option_to_list}
use Rattle.command_line.specs.Words.{named}
use Rattle.command_line.specs.Views.{item_of}
use Rattle.command_line.proofs.grammar.named.Given as goal

abbrev pub invariant-loop-item : goal.invariant-loop-item
invariant-loop-item l = named l.name (map item_of l.items) ≡ map item_of (option_to_list l.found) ++ named l.name (map item_of (drop l.item-index l.items))
