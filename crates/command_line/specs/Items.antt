-- How the words behind the command are read into items. Source: this project's own.
use Rattle.std.specs.Prelude.{ℕ, Bool, ◌||◌, not, ◌==◌, if◌then◌else◌, List, [], ◌∷◌, drop, Option, Some, None, option_map, codes, nat_eq}
use Rattle.std.specs.List.{before_first, after_first, starts_with, list_any}
use Rattle.std.specs.Str.{bytes_eq}

-- An item: the name of an option, and its value. A flag has none.
pub record Item : Type 0 where
  pub name : List ℕ
  pub value : Option (List ℕ)

-- An option with its value.
abbrev pub valued : List ℕ → List ℕ → Item
valued name value = record { name = name; value = Some value }

-- A flag.
abbrev pub flag : List ℕ → Item
flag name = record { name = name; value = None }

-- The word is one of the two flags.
abbrev pub is_flag : List ℕ → Bool
is_flag word = bytes_eq word (codes "--dual") || bytes_eq word (codes "--masked")

-- The word begins with two dashes.
abbrev pub has_two_dashes : List ℕ → Bool
has_two_dashes word = starts_with nat_eq word (codes "--")

-- The word behind its two dashes.
abbrev pub without_dashes : List ℕ → List ℕ
without_dashes word = drop 2 word

-- 61 is the code of the equals sign.
abbrev pub is_equals : ℕ → Bool
is_equals b = b == 61

-- An equals sign stands behind the dashes.
abbrev pub has_equals : List ℕ → Bool
has_equals word = list_any is_equals (without_dashes word)

-- The item of a word --name=value: the two sides of its first equals sign.
abbrev pub parted : List ℕ → Item
parted word = valued (before_first is_equals (without_dashes word)) (after_first is_equals (without_dashes word))

-- The item, and then the rest, if there is one.
abbrev pub followed_by : Item → Option (List Item) → Option (List Item)
followed_by item rest = option_map (λ items. item ∷ items) rest

-- The items of the words: --dual or --masked alone, --name=value in one word, or --name value in two. A name stands before the words where its value is the first of them. There are no items where a word stands outside them.
abbrev pub items_from : Option (List ℕ) → List (List ℕ) → Option (List Item)
items_from None [] = Some []
items_from (Some name) [] = None
items_from (Some name) (value ∷ rest) = followed_by (valued name value) (items_from None rest)
items_from None (word ∷ rest) =
    if is_flag word then followed_by (flag (without_dashes word)) (items_from None rest)
    else (if not (has_two_dashes word) then None
    else (if has_equals word then followed_by (parted word) (items_from None rest)
    else items_from (Some (without_dashes word)) rest))

-- The items of the words behind the command.
abbrev pub items_of : List (List ℕ) → Option (List Item)
items_of words = items_from None words
