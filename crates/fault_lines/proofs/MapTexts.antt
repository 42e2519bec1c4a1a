-- Texts of counts and of targets, in pieces.
use Rattle.std.proofs.Common.{◌≡◌, ◌∙◌, ℕ, List, [], ◌++◌, ap, sym, subst, append_assoc}
use Rattle.std.proofs.lemmas.List.{append-nil}
use Rattle.fault_lines.proofs.Pieces.{in_three}

in_five : (a b c d e : List ℕ) → (((a ++ b) ++ c) ++ d) ++ e ≡ a ++ (b ++ (c ++ (d ++ (e ++ []))))
in_five a b c d e =
    append_assoc ((a ++ b) ++ c) d e ∙ append_assoc (a ++ b) c (d ++ e) ∙ append_assoc a b (c ++ (d ++ e)) ∙ ap (λ (l : List ℕ). a ++ (b ++ (c ++ (d ++ l)))) (sym (append-nil e))

-- five pieces, the third and the fifth of which are the digits of numbers
pub text_of_five : (P : List ℕ → Type 0) (a b first n d second m : List ℕ) → first ≡ n → second ≡ m → P (a ++ (b ++ (first ++ (d ++ (second ++ []))))) → P (a ++ b ++ n ++ d ++ m)
text_of_five P a b first n d second m is also put =
    subst P (sym (in_five a b n d m)) (subst (λ (l : List ℕ). P (a ++ (b ++ (n ++ (d ++ (l ++ [])))))) also (subst (λ (l : List ℕ). P (a ++ (b ++ (l ++ (d ++ (second ++ [])))))) is put))

-- three pieces, the second of which are the digits of a number
pub text_around : (P : List ℕ → Type 0) (a digits n c : List ℕ) → digits ≡ n → P (a ++ (digits ++ (c ++ []))) → P (a ++ n ++ c)
text_around P a digits n c is put = subst P (sym (in_three a n c)) (subst (λ (l : List ℕ). P (a ++ (l ++ (c ++ [])))) is put)
