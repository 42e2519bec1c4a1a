-- Lists of different items with the same members are of one length.
use Rattle.std.proofs.Common.{◌≡◌, ◌≢◌, zero, suc, ◌≤◌, inl, inr, List, [], ◌∷◌, ◌++◌, length, length-append, arith, sym, ap, subst}
use Rattle.std.specs.Prelude.{AllPairs}
use Rattle.std.specs.List.{Contains}
use Rattle.std.proofs.lemmas.List.Elements.{All-contains, Contains-append_left, Contains-append_right, Contains-append_cases}
use Rattle.cell_index.proofs.Ascending.{pairs_tail, pairs_head, member_here, member_there, member_cases}

-- a list with x, as what stands before and behind x
record Split {X : Type 0} (xs : List X) (x : X) : Type 0 where
  before : List X
  behind : List X
  is : xs ≡ before ++ x ∷ behind

split : {X : Type 0} (xs : List X) (x : X) → Contains xs x → Split xs x
split [] x (k, l, e) = absurd (omega (arith, l))
split (y ∷ ys) x (zero, l, e) = record { before = []; behind = ys; is = ap (λ z. z ∷ ys) e }
split (y ∷ ys) x (suc k, l, e) =
    let s = split ys x (k, omega (arith, l), e) in
    record { before = y ∷ s.before; behind = s.behind; is = ap (λ zs. y ∷ zs) s.is }

-- another item of it stands before or behind
kept : {X : Type 0} (xs zs : List X) (x y : X) → y ≢ x → Contains (xs ++ x ∷ zs) y → Contains (xs ++ zs) y
kept xs zs x y ne c =
    elim (Contains-append_cases xs (x ∷ zs) y c) [
      | inl a ↦ Contains-append_left xs zs y a
      | inr b ↦ elim (member_cases x y zs b) [
        | inl e ↦ absurd (ne (sym e))
        | inr h ↦ Contains-append_right xs zs y h
      ]
    ]

-- different items that all stand in another list are at most as many
pub no_longer : {X : Type 0} (xs ys : List X) → AllPairs (λ x y. x ≢ y) xs → ((x : X) → Contains xs x → Contains ys x) → length xs ≤ length ys
no_longer [] ys different members = omega arith
no_longer {X} (x ∷ xs) ys different members =
    let s = split ys x (members x (member_here x xs)) in
    let rest = s.before ++ s.behind in
    let h = no_longer xs rest (pairs_tail (λ x y. x ≢ y) x xs different) (λ y c.
    kept s.before s.behind x y (λ e. All-contains (λ z. x ≢ z) xs y (pairs_head (λ x y. x ≢ y) x xs different) c (sym e))
    (subst (λ (zs : List X). Contains zs y) s.is (members y (member_there x y xs c)))) in
    omega (arith, h, ap length s.is, length-append s.before (x ∷ s.behind), length-append s.before s.behind)

pub same_length : {X : Type 0} (xs ys : List X) → AllPairs (λ x y. x ≢ y) xs → AllPairs (λ x y. x ≢ y) ys
    → ((x : X) → Contains xs x → Contains ys x) → ((x : X) → Contains ys x → Contains xs x) → length xs ≡ length ys
same_length xs ys a b f g = omega (arith, no_longer xs ys a f, no_longer ys xs b g)
