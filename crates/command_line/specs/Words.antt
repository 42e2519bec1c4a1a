-- The command with its options that the words ask for. Source: this project's own; the names of six commands are after the documentation of TempestRemap.
use Rattle.std.specs.Prelude.{◌≡◌, ◌≤◌, ℕ, Bool, true, false, not, ◌&&◌, ◌==◌, nat_le, if◌then◌else◌, List, [], ◌∷◌, length, filter, map, Option, Some, None, option_map, option_and_then, unwrap_or, codes, find, ⊤, String, string_bytes, is_some}
use Rattle.std.specs.List.{list_all, list_any}
use Rattle.std.specs.Option.{option_map_or}
use Rattle.std.specs.Str.{bytes_eq, all_ascii_digits}
use Rattle.std.specs.Str.Parse.{digits_value}
use Rattle.std.specs.declared.alloc.Global.{Global}
use Rattle.command_line.specs.declared.choices.Chosen.{Chosen}
use Rattle.command_line.specs.declared.choices.Chosen.TheVariants.{Cs, Rll, Ico, Overlap, OfflineMap, Apply, Coverage, Check}
use Rattle.command_line.specs.declared.choices.Chosen.TheVariants.{SelfRun as SelfRunOf}
use Rattle.command_line.specs.declared.choices.OptFault.{OptFault}
use Rattle.command_line.specs.declared.choices.OptFault.TheVariants.{Usage, NoMemory}
use Rattle.command_line.specs.declared.table.Command.{Command}
use Rattle.command_line.specs.declared.table.Command.TheVariants.{GenerateCSMesh, GenerateRLLMesh, GenerateICOMesh, GenerateOverlapMesh, GenerateOfflineMap, ApplyOfflineMap, SelfRun, CheckCoverage, CheckMesh}
use Rattle.command_line.specs.declared.table.Form.{Form}
use Rattle.command_line.specs.declared.table.Form.TheVariants.{Text, Number, Flag}
use Rattle.command_line.specs.Table.{Rule, rules_of, command_named}
use Rattle.command_line.specs.Items.{Item, items_of}

-- A value isn't empty, and doesn't begin with a dash, whose code is 45.
abbrev pub is_value : List ℕ → Bool
is_value [] = false
is_value (b ∷ bs) = not (b == 45)

-- The text has 1 to 6 characters, which are decimal digits. Zeros may lead.
abbrev pub is_numeral : List ℕ → Bool
is_numeral text = nat_le 1 (length text) && nat_le (length text) 6 && all_ascii_digits text

-- The text writes a number from low to high.
abbrev pub is_number : ℕ → ℕ → List ℕ → Bool
is_number low high text = is_numeral text && nat_le low (digits_value 10 text) && nat_le (digits_value 10 text) high

-- What stands behind a name has the form of the option.
abbrev pub has_form : Form → Option (List ℕ) → Bool
has_form Text (Some text) = is_value text
has_form (Number low high) (Some text) = is_number low high text
has_form Flag None = true
has_form form value = false

-- The items of one name.
abbrev pub named : List ℕ → List Item → List Item
named name items = filter (λ i. bytes_eq i.name name) items

-- The items of one option keep its rule: none stands where the command can do without it, or a single one stands and has its form.
abbrev pub keeps : Rule → List Item → Bool
keeps rule [] = not rule.required
keeps rule (item ∷ []) = has_form rule.form item.value
keeps rule (item ∷ next ∷ rest) = false

-- The item has the name of one of the options.
abbrev pub is_option : List Rule → Item → Bool
is_option rules item = list_any (λ rule. bytes_eq rule.name item.name) rules

-- The items keep the rule of each option.
abbrev pub all_kept : List Rule → List Item → Bool
all_kept rules items = list_all (λ rule. keeps rule (named rule.name items)) rules

-- Each item has the name of an option.
abbrev pub all_known : List Rule → List Item → Bool
all_known rules items = list_all (is_option rules) items

-- The items are right for a command with these options.
abbrev pub are_right : List Rule → List Item → Bool
are_right rules items = all_kept rules items && all_known rules items

-- What stands behind a name: nothing where no item has the name, and nothing within where the item is a flag.
abbrev pub at : List Item → List ℕ → Option (Option (List ℕ))
at items name = option_map (λ i. i.value) (find (λ i. bytes_eq i.name name) items)

-- The value of an option, where it has one.
abbrev pub value_in : List Item → List ℕ → Option (List ℕ)
value_in items name = option_and_then (λ v. v) (at items name)

-- An option or a flag of this name stands among the items.
abbrev pub stands_in : List Item → List ℕ → Bool
stands_in items name = is_some (at items name)

-- The value as a text. The values that right items lack are never asked for.
abbrev pub text_of : (List ℕ → Option (List ℕ)) → List ℕ → List ℕ
text_of value name = unwrap_or (value name) []

-- The value as the number that its digits write.
abbrev pub number_of : (List ℕ → Option (List ℕ)) → List ℕ → ℕ
number_of value name = digits_value 10 (text_of value name)

-- One worker where the words don't say.
abbrev pub workers_of : (List ℕ → Option (List ℕ)) → ℕ
workers_of value = option_map_or (digits_value 10) (value (codes "workers")) 1

-- The command with its options, by the values of the options and by which flags stand.
abbrev pub choice_of : Command → (List ℕ → Option (List ℕ)) → (List ℕ → Bool) → Chosen
choice_of GenerateCSMesh v stands = Cs (number_of v (codes "res")) (text_of v (codes "file"))
choice_of GenerateRLLMesh v stands = Rll (number_of v (codes "lon")) (number_of v (codes "lat")) (text_of v (codes "file"))
choice_of GenerateICOMesh v stands = Ico (number_of v (codes "res")) (stands (codes "dual")) (text_of v (codes "file"))
choice_of GenerateOverlapMesh v stands = Overlap (text_of v (codes "a")) (text_of v (codes "b")) (text_of v (codes "out")) (workers_of v)
choice_of GenerateOfflineMap v stands = OfflineMap (text_of v (codes "in_mesh")) (text_of v (codes "out_mesh")) (text_of v (codes "ov_mesh")) (text_of v (codes "out_map"))
choice_of ApplyOfflineMap v stands = Apply (text_of v (codes "map")) (text_of v (codes "var")) (text_of v (codes "in_data")) (text_of v (codes "out_data")) (stands (codes "masked"))
choice_of SelfRun v stands = SelfRunOf (number_of v (codes "n")) (workers_of v)
choice_of CheckCoverage v stands = Coverage (text_of v (codes "a")) (text_of v (codes "b"))
choice_of CheckMesh v stands = Check (text_of v (codes "file")) (workers_of v)

-- A command with its items: none where there are no items, or wrong ones.
abbrev pub with_items : Command → Option (List Item) → Option Chosen
with_items command None = None
with_items command (Some items) = if are_right (rules_of command) items then Some (choice_of command (value_in items) (stands_in items)) else None

-- The command with its options, or none where the words are outside the grammar. The first word names the command.
unfoldable pub options_of : List (List ℕ) → Option Chosen
options_of [] = None
options_of (word ∷ rest) = option_and_then (λ command. with_items command (items_of rest)) (command_named word)

-- The words as lists of their bytes.
abbrev pub texts : List (String Global) → List (List ℕ)
texts words = map string_bytes words

-- Usage is said only where the words are outside the grammar. Want of memory says nothing.
abbrev pub SaysUsage : Option Chosen → OptFault → Type 0
SaysUsage chosen Usage = chosen ≡ None
SaysUsage chosen NoMemory = ⊤

-- The numbers of a command are in their ranges.
abbrev pub HasLimits : Chosen → Type 0
HasLimits (Cs res file) = (1 ≤ res) × (res ≤ 400)
HasLimits (Rll lon lat file) = (3 ≤ lon) × (lon ≤ 720) × (2 ≤ lat) × (lat ≤ 360)
HasLimits (Ico res dual file) = (1 ≤ res) × (res ≤ 200)
HasLimits (Overlap a b out workers) = (1 ≤ workers) × (workers ≤ 64)
HasLimits (OfflineMap in_mesh out_mesh ov_mesh out_map) = ⊤
HasLimits (Apply map var in_data out_data masked) = ⊤
HasLimits (SelfRunOf n workers) = (1 ≤ n) × (n ≤ 100) × (1 ≤ workers) × (workers ≤ 64)
HasLimits (Coverage a b) = ⊤
HasLimits (Check file workers) = (1 ≤ workers) × (workers ≤ 64)
