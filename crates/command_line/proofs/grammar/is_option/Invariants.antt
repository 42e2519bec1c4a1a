use Rattle.std.proofs.Common.{◌≡◌, map, drop}
use Rattle.command_line.specs.Words.{is_option}
use Rattle.command_line.specs.Views.{item_of, rule_of}
use Rattle.command_line.proofs.grammar.is_option.Given as goal

abbrev pub invariant-loop-rule : goal.invariant-loop-rule
invariant-loop-rule l = is_option (map rule_of (drop l.rule-index l.rules)) (item_of l.item) ≡ is_option (map rule_of l.rules) (item_of l.item)
