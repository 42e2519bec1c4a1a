-- The grammar, one item at a time.
use Rattle.std.proofs.Common.{◌≡◌, ◌≤◌, ◌∙◌, ◌-◌, ap, ap₂, sym, refl, arith, append_assoc, Bool, true, false, not, ℕ, List, [], ◌∷◌, ◌++◌, drop, take, take_all, length, Option, Some, None, option_map, if◌then◌else◌, String, Global, string_bytes, slice_index_or}
use Rattle.command_line.specs.Items.{Item, is_flag, has_two_dashes, has_equals, without_dashes, parted, flag, valued, followed_by, items_from, items_of}
use Rattle.command_line.specs.FirstItem.{first_item_of, in_two_words}
use Rattle.command_line.specs.Words.{texts}

-- the items from the first one on
abbrev pub behind : Option (Item × List (List ℕ)) → Option (List Item)
behind None = None
behind (Some p) = followed_by p.0 (items_of p.1)

by_cases : (flagged dashed equals : Bool) (a b : Item) (name : List ℕ) (after : List (List ℕ)) → (if flagged then followed_by a (items_of after) else (if not dashed then None else (if equals then followed_by b (items_of after) else items_from (Some name) after)))
    ≡ behind (if flagged then Some (a, after) else (if not dashed then None else (if equals then Some (b, after) else in_two_words name after)))
by_cases true dashed equals a b name after = refl
by_cases false false equals a b name after = refl
by_cases false true true a b name after = refl
by_cases false true false a b name [] = refl
by_cases false true false a b name (value ∷ rest) = refl

pub items_of-first : (word : List ℕ) (after : List (List ℕ)) → items_of (word ∷ after) ≡ behind (first_item_of word after)
items_of-first word after = by_cases (is_flag word) (has_two_dashes word) (has_equals word) (flag (without_dashes word)) (parted word) (without_dashes word) after

-- the words behind the first, as a slice pattern gives them
abbrev pub rest_of : List (String Global) → List (String Global)
rest_of words = take (length words - 1) (drop 1 words)

pub rest_of-cons : (next : String Global) (rest : List (String Global)) → rest_of (next ∷ rest) ≡ rest
rest_of-cons next rest = take_all (length (next ∷ rest) - 1) rest (omega arith)

-- The next word is the value.
pub next_value : (name : List ℕ) (after : List (String Global)) (value : String Global) → 1 ≤ length after → value ≡ slice_index_or after 0 value
    → Some (valued name (string_bytes value), texts (rest_of after)) ≡ in_two_words name (texts after)
next_value name [] value some is = absurd (omega arith)
next_value name (next ∷ rest) value some is = ap₂ (λ (v : String Global) (ws : List (String Global)). Some (valued name (string_bytes v), texts ws)) is (rest_of-cons next rest)

-- What is found before an item, the item, and what is found behind it.
joined : (done : List Item) (item : Item) (rest : Option (List Item)) → option_map (λ found. (done ++ item ∷ []) ++ found) rest ≡ option_map (λ found. done ++ found) (followed_by item rest)
joined done item None = refl
joined done item (Some found) = ap Some (append_assoc done (item ∷ []) found)

-- One item more.
pub walks_on : (done : List Item) (rest after : List (String Global)) (word : String Global) (item : Item) → 1 ≤ length rest → word ≡ slice_index_or rest 0 word → Some (item, texts after) ≡ first_item_of (string_bytes word) (texts (rest_of rest))
    → option_map (λ found. (done ++ item ∷ []) ++ found) (items_of (texts after)) ≡ option_map (λ found. done ++ found) (items_of (texts rest))
walks_on done [] after word item some is first = absurd (omega arith)
walks_on done (next ∷ rest) after word item some is first =
    joined done item (items_of (texts after)) ∙ ap (option_map (λ found. done ++ found))
    (ap behind first ∙ ap₂ (λ (w : String Global) (ws : List (String Global)). behind (first_item_of (string_bytes w) (texts ws))) is (rest_of-cons next rest) ∙ sym (items_of-first (string_bytes next) (texts rest)))
