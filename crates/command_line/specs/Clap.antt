-- What clap is given, and what it gives back.
use Rattle.std.specs.Prelude.{◌≡◌, ℕ, List, [], ◌∷◌, ◌++◌, codes, Bool, true, false, Option, Some, None, map, option_and_then, is_some, IfSome, IsSome, IsSomeAnd, ⊤}
use Rattle.std.specs.List.{fold}
use Rattle.std.specs.Option.{option_map_or}
use Rattle.std.specs.Str.{bytes_eq}
use Rattle.clap.specs.Words.{App, Row, new_app, new_rule, with_rule, matches_of, takes, first_of}
use Rattle.clap.specs.Words as clap
use Rattle.clap.specs.Simple.{on_top}
use Rattle.clap.specs.declared.builder.ArgAction.TheVariants.{Set, SetTrue}
use Rattle.command_line.specs.declared.choices.Chosen.{Chosen}
use Rattle.command_line.specs.declared.table.Command.{Command}
use Rattle.command_line.specs.declared.table.Form.{Form}
use Rattle.command_line.specs.declared.table.Form.TheVariants.{Text, Number, Flag}
use Rattle.command_line.specs.Table.{Rule, rules_of, word_of}
use Rattle.command_line.specs.Words.{choice_of, is_number}

-- What stands behind a name, as `at` of the grammar gives it.
abbrev pub Value : Type 0
Value = Option (Option (List ℕ))

-- The words of one option: --name=value, or --name for a flag.
abbrev pub words_for : List ℕ → Value → List (List ℕ)
words_for name None = []
words_for name (Some None) = (codes "--" ++ name) ∷ []
words_for name (Some (Some text)) = (codes "--" ++ (name ++ (codes "=" ++ text))) ∷ []

abbrev pub spell : List Rule → List Value → List (List ℕ)
spell [] values = []
spell (rule ∷ rules) [] = []
spell (rule ∷ rules) (value ∷ values) = words_for rule.name value ++ spell rules values

-- The words of a command with what stands behind the names of its options, in the order of the table.
abbrev pub spelled : Command → List Value → List (List ℕ)
spelled command values = word_of command ∷ spell (rules_of command) values

-- the values of the options, in the order of the table
abbrev pub values_of : Command → (List ℕ → Value) → List Value
values_of command given = map (λ rule. given rule.name) (rules_of command)

-- An option as clap's builder has it.
abbrev pub clap_rule : List ℕ → Bool → Form → clap.Rule
clap_rule name required Flag = record (new_rule name) { long = Some name; action = Some SetTrue }
clap_rule name required form = record (new_rule name) { long = Some name; required = required; action = Some Set }

abbrev pub with_option : App → Rule → App
with_option app rule = with_rule app (clap_rule rule.name rule.required rule.form)

abbrev pub start : List ℕ → App
start word = on_top (λ s. record s { disable_help_flag = true }) (new_app word)

-- A command as clap's builder has it: a simple command with the options of the table, and no help.
abbrev pub app_for : Command → App
app_for command = fold with_option (start (word_of command)) (rules_of command)

abbrev pub truth : Bool → List ℕ
truth true = codes "true"
truth false = codes "false"

-- clap has a flag's value as a text.
abbrev pub says_true : (List ℕ → Option (List ℕ)) → List ℕ → Bool
says_true told name = option_map_or (λ t. bytes_eq t (codes "true")) (told name) false

-- The command with its options, by what clap gives back.
abbrev pub IsChosen : Command → (List ℕ → Option (List ℕ)) → Chosen → Type 0
IsChosen command told chosen = chosen ≡ choice_of command told (says_true told)

-- What clap gives back for an option: its value, or whether the flag stands.
abbrev pub ReadsBack : Form → List ℕ → Value → List Row → Type 0
ReadsBack Flag name value rows = first_of name rows ≡ Some (truth (is_some value))
ReadsBack form name value rows = first_of name rows ≡ option_and_then (λ v. v) value

abbrev pub ReadsAll : List Rule → List Value → List Row → Type 0
ReadsAll [] values rows = ⊤
ReadsAll (rule ∷ rules) [] rows = ⊤
ReadsAll (rule ∷ rules) (value ∷ values) rows = ReadsBack rule.form rule.name value rows × ReadsAll rules values rows

-- clap takes the words of these values, and gives the values back.
abbrev pub IsRead : Command → List Value → Type 0
IsRead command values = (takes (app_for command) (spelled command values) ≡ true) × ReadsAll (rules_of command) values (matches_of (app_for command) (spelled command values))

-- What is told of an option has its form.
abbrev pub IsTold : Form → Bool → Option (List ℕ) → Type 0
IsTold Text true told = IsSome told
IsTold Text false told = ⊤
IsTold (Number low high) true told = IsSomeAnd told (λ t. is_number low high t ≡ true)
IsTold (Number low high) false told = IfSome told (λ t. is_number low high t ≡ true)
IsTold Flag required told = ⊤

abbrev pub AreTold : List Rule → (List ℕ → Option (List ℕ)) → Type 0
AreTold [] told = ⊤
AreTold (rule ∷ rules) told = IsTold rule.form rule.required (told rule.name) × AreTold rules told
