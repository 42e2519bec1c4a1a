use Rattle.std.proofs.Common.{◌≡◌, map, drop}
use Rattle.command_line.specs.Words.{all_known}
use Rattle.command_line.specs.Views.{item_of, rule_of}
use Rattle.command_line.proofs.grammar.all_known.Given as goal

abbrev pub invariant-loop-item : goal.invariant-loop-item
invariant-loop-item l = all_known (map rule_of l.rules) (map item_of (drop l.item-index l.items)) ≡ all_known (map rule_of l.rules) (map item_of l.items)
