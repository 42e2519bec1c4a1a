use Rattle.std.proofs.Common.{◌≡◌, ◌++◌, map, drop, flat_map}
use Rattle.command_line.specs.Clap.{spelled, values_of, words_for}
use Rattle.command_line.specs.Words.{at, texts}
use Rattle.command_line.specs.Views.{item_of, rule_of}
use Rattle.command_line.proofs.spelling.spelled.Given as goal

abbrev pub invariant-loop-rule : goal.invariant-loop-rule
invariant-loop-rule l = texts l.words.items ++ flat_map (λ rule. words_for rule.name (at (map item_of l.items) rule.name)) (map rule_of (drop l.rule-index l.rule-items)) ≡ spelled l.fn.command (values_of l.fn.command (at (map item_of l.items)))
