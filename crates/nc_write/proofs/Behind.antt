-- Parts that are put one behind another.
use Rattle.std.proofs.Common.{◌≡◌, ◌<◌, ◌≤◌, ◌+◌, ◌^◌, ℕ, suc, List, [], ◌∷◌, ◌++◌, length, take, drop, get_or, min, refl, sym, ap, ◌∙◌, append_assoc, append-nil, add-one, length-drop, arith}
use Rattle.std.proofs.Math.Seq.{drop-cons}
use Rattle.std.proofs.lemmas.Grind.{flat_map-append}
use Rattle.std.proofs.lemmas.List.{take_more, take_all}
use Rattle.std.proofs.lemmas.List.Sums.{sum_by-append, sum_by-take-le}
use Rattle.std.specs.List.{flat_map, sum_by}
use Rattle.nc_write.specs.declared.NcDoc.{NcDoc}
use Rattle.nc_write.specs.declared.DocVar.{DocVar}
use Rattle.nc_write.specs.File.{variable, variables, begin_of, fixed_len, first_len}

-- the items up to one more
one_more : {A : Type 0} (xs : List A) (i : ℕ) (x : A) → i < length xs → x ≡ get_or xs i x → take (i + 1) xs ≡ take i xs ++ x ∷ []
one_more xs i x l is = take_more xs i x l ∙ ap (λ y. take i xs ++ y ∷ []) (sym is)

-- one part more
pub put_more : {A : Type 0} (f : A → List ℕ) (xs : List A) (i : ℕ) (x : A) (old out more : List ℕ) → i < length xs → x ≡ get_or xs i x
    → out ≡ old ++ flat_map f (take i xs) → more ≡ out ++ f x → more ≡ old ++ flat_map f (take (i + 1) xs)
put_more f xs i x old out more l is e n =
    let parts : flat_map f (take (i + 1) xs) ≡ flat_map f (take i xs) ++ f x =
    ap (flat_map f) (one_more xs i x l is) ∙ flat_map-append f (take i xs) (x ∷ []) ∙ ap (λ s. flat_map f (take i xs) ++ s) (append-nil (f x)) in
    n ∙ ap (λ s. s ++ f x) e ∙ append_assoc old (flat_map f (take i xs)) (f x) ∙ ap (λ s. old ++ s) (sym parts)

-- all parts
pub put_all : {A : Type 0} (f : A → List ℕ) (xs : List A) (n : ℕ) (old out : List ℕ) → length xs ≤ n → out ≡ old ++ flat_map f (take n xs) → out ≡ old ++ flat_map f xs
put_all f xs n old out h e = e ∙ ap (λ l. old ++ flat_map f l) (take_all n xs h)

-- no items have no parts
pub no_parts : {A : Type 0} (f : A → List ℕ) (xs : List A) → length xs ≡ 0 → flat_map f xs ≡ []
no_parts f [] e = refl
no_parts f (x ∷ xs) e = absurd (omega arith)

-- ---- variables
pub no_variables : (doc : NcDoc) (fixed place : ℕ) (vs : List DocVar) → length vs ≡ 0 → variables doc fixed place vs ≡ []
no_variables doc fixed place [] e = refl
no_variables doc fixed place (v ∷ vs) e = absurd (omega arith)

-- none are left
pub variables_end : (doc : NcDoc) (fixed place n : ℕ) (vs : List DocVar) (out all : List ℕ) → length vs ≤ n → out ++ variables doc fixed place (drop n vs) ≡ all → out ≡ all
variables_end doc fixed place n vs out all h e =
    sym (append-nil out) ∙ ap (λ s. out ++ s) (sym (no_variables doc fixed place (drop n vs) (grind (arith, length-drop {A = DocVar})))) ∙ e

-- one less is left
pub variables_next : (doc : NcDoc) (vs : List DocVar) (i : ℕ) (v : DocVar) (at fixed place fixed_then place_then : ℕ) (out more all : List ℕ) → i < length vs → v ≡ get_or vs i v
    → at ≡ begin_of doc fixed place v → fixed_then ≡ fixed + fixed_len doc v → place_then ≡ place + first_len doc v
    → more ≡ out ++ variable doc at v → out ++ variables doc fixed place (drop i vs) ≡ all → more ++ variables doc fixed_then place_then (drop (i + 1) vs) ≡ all
variables_next doc vs i v at fixed place fixed_then place_then out more all l is here f p n e =
    let rest = drop (i + 1) vs in
    let split : drop i vs ≡ v ∷ rest = drop-cons vs i v l ∙ ap (λ x. x ∷ drop (suc i) vs) (sym is) ∙ ap (λ k. v ∷ drop k vs) (sym (add-one i)) in
    ap (λ s. s ++ variables doc fixed_then place_then rest) n
    ∙ ap (λ k. (out ++ variable doc at v) ++ variables doc k place_then rest) f
    ∙ ap (λ k. (out ++ variable doc at v) ++ variables doc (fixed + fixed_len doc v) k rest) p
    ∙ ap (λ k. (out ++ variable doc k v) ++ variables doc (fixed + fixed_len doc v) (place + first_len doc v) rest) here
    ∙ append_assoc out (variable doc (begin_of doc fixed place v) v) (variables doc (fixed + fixed_len doc v) (place + first_len doc v) rest)
    ∙ ap (λ xs. out ++ variables doc fixed place xs) (sym split)
    ∙ e

-- a place behind so many lengths, which doesn't reach 2^63
pub record IsBehind {A : Type 0} (f : A → ℕ) (xs : List A) (i : ℕ) (x : A) (start at len : ℕ) : Type 0 where
  pub len_is : at + len ≡ at + f x
  pub place_is : at + len ≡ start + sum_by f (take (i + 1) xs)
  pub low : at + len < 2 ^ 63

pub behind : {A : Type 0} (f : A → ℕ) (xs : List A) (i : ℕ) (x : A) (start at len : ℕ) → i < length xs → x ≡ get_or xs i x → start + sum_by f xs < 2 ^ 63
    → at ≡ start + sum_by f (take i xs) → len ≡ min (f x) (2 ^ 63) → IsBehind f xs i x start at len
behind f xs i x start at len l is room e h =
    let more : sum_by f (take (i + 1) xs) ≡ sum_by f (take i xs) + f x =
    ap (sum_by f) (one_more xs i x l is) ∙ sum_by-append f (take i xs) (x ∷ []) ∙ omega arith in
    let low = sum_by-take-le f xs (i + 1) in
    record { len_is = omega (arith, more, low, room, h); place_is = omega (arith, more, low, room, e, h); low = omega (arith, more, low, room, e, h) }
