-- What stands behind the names of right items.
use Rattle.std.proofs.Common.{◌≡◌, refl, sym, subst, cond, Bool, true, false, not, ℕ, List, [], ◌∷◌, filter, find, Some, None, option_map}
use Rattle.std.specs.Str.{bytes_eq}
use Rattle.std.proofs.lemmas.Bool.{and_parts}
use Rattle.command_line.specs.declared.table.Form.TheVariants.{Text, Number, Flag}
use Rattle.command_line.specs.Table.{Rule}
use Rattle.command_line.specs.Items.{Item}
use Rattle.command_line.specs.Words.{all_kept, at, has_form, keeps, named}
use Rattle.command_line.specs.Clap.{Value}

-- what stands behind a name fits the rule of the option
abbrev pub fits : Rule → Value → Bool
fits rule None = not rule.required
fits rule (Some value) = has_form rule.form value

abbrev pub AllFit : List Rule → (List ℕ → Value) → Type 0
AllFit [] given = Unit {0}
AllFit (rule ∷ rules) given = (fits rule (given rule.name) ≡ true) × AllFit rules given

abbrev standing : List Item → Value
standing [] = None
standing (item ∷ items) = Some item.value

first_named : (p : Item → Bool) (items : List Item) → option_map (λ (i : Item). i.value) (find p items) ≡ standing (filter p items)
first_named p [] = refl
first_named p (item ∷ items) =
    elim (p item) as (λ b. option_map (λ (i : Item). i.value) (cond b (Some item) (find p items)) ≡ standing (cond b (item ∷ filter p items) (filter p items))) [
      | true ↦ refl
      | false ↦ first_named p items
    ]

kept_fits : (rule : Rule) (items : List Item) → keeps rule items ≡ true → fits rule (standing items) ≡ true
kept_fits rule [] h = h
kept_fits rule (item ∷ []) h = h
kept_fits rule (item ∷ next ∷ rest) h = cc

pub all_fit : (rules : List Rule) (items : List Item) → all_kept rules items ≡ true → AllFit rules (at items)
all_fit [] items h = tt
all_fit (rule ∷ rules) items h = (
  subst (λ (v : Value). fits rule v ≡ true) (sym (first_named (λ i. bytes_eq i.name rule.name) items)) (kept_fits rule (named rule.name items) (and_parts _ _ h).0),
  all_fit rules items (and_parts _ _ h).1,
)

-- a required text, a required number: there is a value
pub required_text : (name : List ℕ) (P : Value → Type 0) (v : Value) → fits (record { name = name; required = true; form = Text }) v ≡ true → ((t : List ℕ) → P (Some (Some t))) → P v
required_text name P None h all = cc
required_text name P (Some None) h all = cc
required_text name P (Some (Some t)) h all = all t

pub required_number : (name : List ℕ) (low high : ℕ) (P : Value → Type 0) (v : Value) → fits (record { name = name; required = true; form = Number low high }) v ≡ true → ((t : List ℕ) → P (Some (Some t))) → P v
required_number name low high P None h all = cc
required_number name low high P (Some None) h all = cc
required_number name low high P (Some (Some t)) h all = all t

-- a number that may be left out; a flag
pub optional_number : (name : List ℕ) (low high : ℕ) (P : Value → Type 0) (v : Value) → fits (record { name = name; required = false; form = Number low high }) v ≡ true → P None → ((t : List ℕ) → P (Some (Some t))) → P v
optional_number name low high P None h none all = none
optional_number name low high P (Some None) h none all = cc
optional_number name low high P (Some (Some t)) h none all = all t

pub optional_flag : (name : List ℕ) (P : Value → Type 0) (v : Value) → fits (record { name = name; required = false; form = Flag }) v ≡ true → P None → P (Some None) → P v
optional_flag name P None h none flag = none
optional_flag name P (Some None) h none flag = flag
optional_flag name P (Some (Some t)) h none flag = cc
