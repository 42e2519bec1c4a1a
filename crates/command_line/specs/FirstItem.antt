-- The first item of some words, and the words behind it.
use Rattle.std.specs.Prelude.{ℕ, List, [], ◌∷◌, not, Option, Some, None, if◌then◌else◌}
use Rattle.command_line.specs.Items.{Item, is_flag, has_two_dashes, has_equals, without_dashes, parted, flag, valued}

-- An option whose value is the next word.
abbrev pub in_two_words : List ℕ → List (List ℕ) → Option (Item × List (List ℕ))
in_two_words name [] = None
in_two_words name (value ∷ rest) = Some (valued name value, rest)

abbrev pub first_item_of : List ℕ → List (List ℕ) → Option (Item × List (List ℕ))
first_item_of word after =
    if is_flag word then Some (flag (without_dashes word), after)
    else (if not (has_two_dashes word) then None
    else (if has_equals word then Some (parted word, after) else in_two_words (without_dashes word) after))
