-- Placing one variable after the other.
use Rattle.std.proofs.Common.{◌≡◌, ℕ, ◌+◌, ◌-◌, ◌<◌, ◌≤◌, Bool, true, false, not, List, ◌∷◌, ◌++◌, length, take, drop, get_or, map, Option, Some, None, refl, sym, ap, ◌∙◌, arith}
use Rattle.std.proofs.lemmas.List.{drop_all, drop_more, length-take, length-map, get_or-drop, get_or-append_right}
use Rattle.nc_format.specs.declared.NcVar.{NcVar}
use Rattle.nc_format.specs.Placing.{is_outside}
use Rattle.std.specs.List.{position_from}

pub not_moved : (f : NcVar → NcVar) (xs ys : List NcVar) (i : ℕ) (x : NcVar) → i < length xs → ys ≡ map f (take i xs) ++ drop i xs → x ≡ get_or ys i x → x ≡ get_or xs i x
not_moved f xs ys i x lt e is =
    let front : length (map f (take i xs)) ≡ i = omega (arith, length-map (take i xs) f, length-take i xs) in
    let back : get_or (map f (take i xs) ++ drop i xs) i x ≡ get_or (drop i xs) (i - i) x = get_or-append_right (map f (take i xs)) (drop i xs) i i x front (omega arith) in
    let zero_off : i - i ≡ 0 = omega arith in
    is ∙ ap (λ l. get_or l i x) e ∙ back ∙ ap (λ k. get_or (drop i xs) k x) zero_off ∙ get_or-drop i xs 0 x ∙ ap (λ k. get_or xs k x) (let z : i + 0 ≡ i = omega arith in z)

flip : (b : Bool) → false ≡ not b → b ≡ true
flip true e = refl
flip false e = absurd cc

flip_true : (b : Bool) → true ≡ not b → b ≡ false
flip_true true e = absurd cc
flip_true false e = refl

pub not_false : (r b : Bool) → r ≡ not b → r ≡ false → b ≡ true
not_false r b e h = flip b (sym h ∙ e)

pub not_true : (r b : Bool) → r ≡ not b → r ≡ true → b ≡ false
not_true r b e h = flip_true b (sym h ∙ e)

step_is : (f : NcVar → NcVar) (len : ℕ) (xs : List NcVar) (i : ℕ) (x : NcVar) → i < length xs → x ≡ get_or xs i x → position_from (is_outside len) i (map f (drop i xs)) ≡ position_from (is_outside len) i (f x ∷ map f (drop (i + 1) xs))
step_is f len xs i x lt is = ap (λ l. position_from (is_outside len) i (map f l)) (drop_more xs i x lt ∙ ap (λ y. y ∷ drop (i + 1) xs) (sym is))

pub outside_goes_on : (f : NcVar → NcVar) (len : ℕ) (xs : List NcVar) (i : ℕ) (x : NcVar) (total : Option ℕ) → i < length xs → x ≡ get_or xs i x → is_outside len (f x) ≡ false → position_from (is_outside len) i (map f (drop i xs)) ≡ total → position_from (is_outside len) (i + 1) (map f (drop (i + 1) xs)) ≡ total
outside_goes_on f len xs i x total lt is out h =
    let e : position_from (is_outside len) i (f x ∷ map f (drop (i + 1) xs)) ≡ position_from (is_outside len) (i + 1) (map f (drop (i + 1) xs)) = rw out refl in
    sym e ∙ sym (step_is f len xs i x lt is) ∙ h

pub outside_found : (f : NcVar → NcVar) (len : ℕ) (xs : List NcVar) (i : ℕ) (x : NcVar) (total : Option ℕ) → i < length xs → x ≡ get_or xs i x → is_outside len (f x) ≡ true → position_from (is_outside len) i (map f (drop i xs)) ≡ total → Some i ≡ total
outside_found f len xs i x total lt is out h =
    let e : position_from (is_outside len) i (f x ∷ map f (drop (i + 1) xs)) ≡ Some i = rw out refl in
    sym e ∙ sym (step_is f len xs i x lt is) ∙ h

pub outside_none : (f : NcVar → NcVar) (len : ℕ) (xs : List NcVar) (i : ℕ) (total : Option ℕ) → length xs ≤ i → position_from (is_outside len) i (map f (drop i xs)) ≡ total → None ≡ total
outside_none f len xs i total le h =
    let e : position_from (is_outside len) i (map f (drop i xs)) ≡ None = rw (drop_all i xs le) refl in
    sym e ∙ h
