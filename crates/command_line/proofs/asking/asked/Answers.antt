use Rattle.std.proofs.Common.{◌≡◌, ◌∙◌, ap, subst, sym, map, true, List}
use Rattle.std.proofs.lemmas.Bool.{and_parts}
use Rattle.std.proofs.lemmas.Result.{IfOk-weaker}
use Rattle.clap.specs.Words.{first_value, found_of, rows_of}
use Rattle.clap.proofs.WalkLemmas.{first_value-rows}
use Rattle.command_line.specs.declared.table.Command.{Command}
use Rattle.command_line.specs.Table.{rules_of}
use Rattle.command_line.specs.Items.{Item}
use Rattle.command_line.specs.Views.{item_of}
use Rattle.command_line.specs.Words.{are_right, at, texts, HasLimits}
use Rattle.command_line.specs.Clap.{IsRead, values_of}
use Rattle.command_line.proofs.Fitting.{AllFit, all_fit}
use Rattle.command_line.proofs.Limits.{has_limits}
use Rattle.command_line.proofs.Right.{are_told, right_is_read, same_choice}
use Rattle.command_line.proofs.asking.asked.Goals as goal

fit : (command : Command) (items : List Item) → are_right (rules_of command) items ≡ true → AllFit (rules_of command) (at items)
fit command items h = all_fit (rules_of command) items (and_parts _ _ h).0

is_read : (command : Command) (items : List Item) → are_right (rules_of command) items ≡ true → IsRead command (values_of command (at items))
is_read command items h = right_is_read command (at items) (fit command items h)

pub chosen-requires : goal.chosen-requires
chosen-requires c =
    let items = map item_of c.args.items.now in
    let words = ap texts c.as_slice.ensures.value ∙ c.in_ok-words.ensures in
    let read = c.in-Ok.ensures.values (values_of c.args.command (at items)) words (is_read c.args.command items c.requires) in
    let found = found_of c.in-Ok.matches in
    are_told (rules_of c.args.command) (at items) (first_value found) (rows_of found) (first_value-rows found) (fit c.args.command items c.requires) read

pub returns-in-Ok : goal.returns-in-Ok
returns-in-Ok c =
    let items = map item_of c.args.items.now in
    let words = ap texts c.as_slice.ensures.value ∙ c.in_ok-words.ensures in
    let read = c.in-Ok.ensures.values (values_of c.args.command (at items)) words (is_read c.args.command items c.requires) in
    let found = found_of c.in-Ok.matches in
    let same = same_choice c.args.command (at items) (first_value found) (rows_of found) (first_value-rows found) read in
    record {
      chosen = IfOk-weaker c.chosen.result _ _ (λ r is. is ∙ same) c.chosen.ensures;
      limits = IfOk-weaker c.chosen.result _ _ (λ r is. subst HasLimits (sym (is ∙ same)) (has_limits c.args.command (at items) (fit c.args.command items c.requires))) c.chosen.ensures;
    }

pub unreachable-requires : goal.unreachable-requires
unreachable-requires c =
    let items = map item_of c.args.items.now in
    let words = ap texts c.as_slice.ensures.value ∙ c.in_ok-words.ensures in
    let refused = c.in-Err.ensures.refused (values_of c.args.command (at items)) words (is_read c.args.command items c.requires) in
    c.in_default.not-OutOfMemory (c.kind.ensures ∙ refused)
