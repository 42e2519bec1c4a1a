-- A text in pieces.
use Rattle.std.proofs.Common.{◌≡◌, ◌∙◌, ℕ, List, [], ◌++◌, ap, sym, subst, append_assoc}
use Rattle.std.proofs.lemmas.List.{append-nil}

pub in_three : (a b c : List ℕ) → (a ++ b) ++ c ≡ a ++ (b ++ (c ++ []))
in_three a b c = append_assoc a b c ∙ ap (λ (l : List ℕ). a ++ (b ++ l)) (sym (append-nil c))

in_four : (a b c d : List ℕ) → ((a ++ b) ++ c) ++ d ≡ a ++ (b ++ (c ++ (d ++ [])))
in_four a b c d = append_assoc (a ++ b) c d ∙ append_assoc a b (c ++ d) ∙ ap (λ (l : List ℕ). a ++ (b ++ (c ++ l))) (sym (append-nil d))

-- four pieces, the third of which are the digits of a number
pub text_of_four : (P : List ℕ → Type 0) (a b digits number d : List ℕ) → digits ≡ number → P (a ++ (b ++ (digits ++ (d ++ [])))) → P (a ++ b ++ number ++ d)
text_of_four P a b digits number d is put = subst P (sym (in_four a b number d)) (subst (λ (n : List ℕ). P (a ++ (b ++ (n ++ (d ++ []))))) is put)

-- a file, a text and a name, which is put without or with the number at its end
pub text_of_name : (P : List ℕ → Type 0) (a b front name : List ℕ) → front ++ [] ≡ name → P (a ++ (b ++ (front ++ []))) → P (a ++ b ++ name)
text_of_name P a b front name whole put = subst P (sym (append_assoc a b name)) (subst (λ (l : List ℕ). P (a ++ (b ++ l))) whole put)

pub text_of_numbered : (P : List ℕ → Type 0) (a b front digits number name : List ℕ) → digits ≡ number → front ++ number ≡ name → P (a ++ (b ++ (front ++ (digits ++ [])))) → P (a ++ b ++ name)
text_of_numbered P a b front digits number name is whole put =
    let digits_are : (front ++ (digits ++ [])) ≡ name = ap (λ (l : List ℕ). front ++ l) (append-nil digits ∙ is) ∙ whole in
    subst P (sym (append_assoc a b name)) (subst (λ (l : List ℕ). P (a ++ (b ++ l))) digits_are put)

-- a text and a number
pub text_of_two : (P : List ℕ → Type 0) (a digits number : List ℕ) → digits ≡ number → P (a ++ (digits ++ [])) → P (a ++ number)
text_of_two P a digits number is put = subst (λ (n : List ℕ). P (a ++ n)) (append-nil digits ∙ is) put
