use Rattle.std.proofs.Common.{◌≡◌, map, drop}
use Rattle.command_line.specs.Words.{all_kept}
use Rattle.command_line.specs.Views.{item_of, rule_of}
use Rattle.command_line.proofs.grammar.all_kept.Given as goal

abbrev pub invariant-loop-rule : goal.invariant-loop-rule
invariant-loop-rule l = all_kept (map rule_of (drop l.rule-index l.rules)) (map item_of l.items) ≡ all_kept (map rule_of l.rules) (map item_of l.items)
