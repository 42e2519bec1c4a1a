-- What contracts see of the rows of the table and of items: their texts are lists of bytes.
use Rattle.std.specs.Prelude.{◌≡◌, ◌≤◌, List, [], ◌∷◌, length, option_map}
use Rattle.command_line.specs.declared.grammar.Standing.{Standing}
use Rattle.command_line.specs.declared.grammar.Standing.TheVariants as standing
use Rattle.command_line.specs.declared.table.Rule.{Rule as RuleRow}
use Rattle.command_line.specs.declared.items.Item.{Item as WordItem}
use Rattle.command_line.specs.Table.{Rule}
use Rattle.command_line.specs.Items.{Item}

abbrev pub rule_of : RuleRow → Rule
rule_of row = record { name = row.name.now; required = row.required; form = row.form }

abbrev pub item_of : WordItem → Item
item_of item = record { name = item.name.now; value = option_map (λ v. v.now) item.value }

-- How many items there are: none, this one, or more.
abbrev pub StandsAs : Standing → List Item → Type 0
StandsAs standing.None items = items ≡ []
StandsAs (standing.One item) items = items ≡ item_of item ∷ []
StandsAs standing.More items = 2 ≤ length items
