-- What a filter keeps.
use Rattle.std.proofs.Common.{◌≡◌, zero, suc, Bool, true, false, List, [], ◌∷◌, arith, ap, refl, sym, ◌∙◌, subst, cond}
use Rattle.std.specs.List.{Contains, filter}
use Rattle.std.proofs.lemmas.List.Elements.{All-filter, All-contains, All-contains_itself, filter_passes}

at_front : {X : Type 0} (x : X) (xs : List X) → Contains (x ∷ xs) x
at_front x xs = (0, omega arith, refl)

behind : {X : Type 0} (y : X) (xs : List X) (x : X) → Contains xs x → Contains (y ∷ xs) x
behind y xs x (k, l, e) = (suc k, omega (arith, l), e)

-- an item that passes is kept
pub filter_has : {X : Type 0} (p : X → Bool) (xs : List X) (x : X) → p x ≡ true → Contains xs x → Contains (filter p xs) x
filter_has p [] x t (k, l, e) = absurd (omega (arith, l))
filter_has p (y ∷ ys) x t (zero, l, e) =
    subst (λ (b : Bool). Contains (cond b (y ∷ filter p ys) (filter p ys)) x) (sym (ap p e ∙ t))
    (subst (λ z. Contains (y ∷ filter p ys) z) e (at_front y (filter p ys)))
filter_has p (y ∷ ys) x t (suc k, l, e) =
    kept (p y) (filter_has p ys x t (k, omega (arith, l), e))
  where
    kept : (b : Bool) → Contains (filter p ys) x → Contains (cond b (y ∷ filter p ys) (filter p ys)) x
    kept true c = behind y (filter p ys) x c
    kept false c = c

-- what is kept was there, and passes
pub filter_from : {X : Type 0} (p : X → Bool) (xs : List X) (x : X) → Contains (filter p xs) x → Contains xs x × (p x ≡ true)
filter_from p xs x c = (
  All-contains (Contains xs) (filter p xs) x (All-filter p (Contains xs) xs (All-contains_itself xs)) c,
  All-contains (λ y. p y ≡ true) (filter p xs) x (filter_passes p xs) c,
)
