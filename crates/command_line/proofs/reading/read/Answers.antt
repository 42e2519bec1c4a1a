use Rattle.std.proofs.Common.{◌≡◌, ◌∙◌, ap, ap₂, subst, sym}
use Rattle.std.proofs.lemmas.Result.{IfErr-weaker, IfOk-weaker}
use Rattle.clap.specs.Words.{app_of, is_simple, matches_of, takes}
use Rattle.command_line.specs.Clap.{app_for, ReadsAll}
use Rattle.command_line.specs.Table.{rules_of}
use Rattle.command_line.proofs.Computed.{apps_are_simple}
use Rattle.command_line.proofs.reading.read.Goals as goal

pub returns-clause-values : goal.returns-clause-values
returns-clause-values c =
    let app_is : app_of c.in_ok-simple_command.field-0 ≡ app_for c.args.command = c.in_ok-simple_command.ensures in
    let parse = c.try_get_matches_from in
    IfOk-weaker parse.result _ _ (λ m h values words read. subst (ReadsAll (rules_of c.args.command) values)
    (sym ((h (ap is_simple app_is ∙ apps_are_simple c.args.command)).0 ∙ ap₂ matches_of app_is words)) read.1) parse.ensures.matches

pub returns-clause-refused : goal.returns-clause-refused
returns-clause-refused c =
    let app_is : app_of c.in_ok-simple_command.field-0 ≡ app_for c.args.command = c.in_ok-simple_command.ensures in
    let parse = c.try_get_matches_from in
    IfErr-weaker parse.result _ _ (λ e h values words read. h (ap₂ takes app_is words ∙ read.0)) parse.ensures.passes
