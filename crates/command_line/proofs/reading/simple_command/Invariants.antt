use Rattle.std.proofs.Common.{◌≡◌, map, drop}
use Rattle.std.specs.List.{fold}
use Rattle.clap.specs.Words.{app_of}
use Rattle.command_line.specs.Clap.{app_for, with_option}
use Rattle.command_line.specs.Views.{rule_of}
use Rattle.command_line.proofs.reading.simple_command.Given as goal

abbrev pub invariant-loop-rule : goal.invariant-loop-rule
invariant-loop-rule l = fold with_option (app_of l.made) (map rule_of (drop l.rule-index l.rule-items)) ≡ app_for l.fn.command
