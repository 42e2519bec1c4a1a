-- One step of a walk, and of a search among the faces that hold a node.
use Rattle.std.proofs.Common.{◌≡◌, ◌≢◌, ◌∙◌, ◌+◌, ◌-◌, ◌≤◌, ◌<◌, ℕ, zero, suc, ℤ, pos, Bool, true, false, cond, not, ◌&&◌, List, [], ◌∷◌, ◌++◌, append_assoc, append-nil, length, get_or, drop, inl, inr, ◌⊎◌, refl, sym, ap, subst, arith, All}
use Rattle.std.specs.Prelude.{◌==◌, nat_lt, Some, None, slice_get}
use Rattle.std.specs.List.{position_or_len}
use Rattle.std.proofs.lemmas.Bool.{ltb-true}
use Rattle.std.proofs.lemmas.Bool.Decides.{nat_tests}
use Rattle.std.proofs.lemmas.List.Sums.{passes_at_first}
use Rattle.gen_ico.specs.Dual.{behind, dual_face, faces_from, holds, is_followed, place_followed, place_of}
use Rattle.gen_ico.specs.Holding.{holding}
use Rattle.gen_ico.proofs.Places.{place_held}
use Rattle.gen_ico.proofs.Tables.{in_range}
use Rattle.gen_ico.proofs.Held.{first_of, least_followed, least_holding}

abbrev pub followed : List (List ℤ) → ℤ → ℤ → ℕ → Bool
followed faces p h t = is_followed p h (get_or faces t [])

-- ---- the search

pub search_starts : (faces : List (List ℤ)) (holders : List ℕ) (p q h i : ℤ) → holders ≡ holding faces q → p ≡ q → h ≡ i → first_of (followed faces p h) (length faces) holders ≡ position_or_len (is_followed p h) faces
search_starts faces holders p q h i e same _ =
    ap (first_of (followed faces p h) (length faces)) (e ∙ ap (holding faces) (sym same)) ∙ least_followed faces p h

pub search_step : (g : ℕ → Bool) (d : ℕ) (xs : List ℕ) (i : ℕ) (b : Bool) → i < length xs → g (get_or xs i 0) ≡ b → first_of g d (drop i xs) ≡ cond b (get_or xs i 0) (first_of g d (drop (i + 1) xs))
search_step g d [] i b lt is = absurd (omega (arith, lt))
search_step g d (x ∷ xs) zero b lt is = ap (λ (c : Bool). cond c x (first_of g d xs)) is
search_step g d (x ∷ xs) (suc i) b lt is =
    let next : suc (i + 1) ≡ suc i + 1 = omega arith in
    search_step g d xs i b (omega (arith, lt)) is ∙ ap (λ (k : ℕ). cond b (get_or xs i 0) (first_of g d (drop k (x ∷ xs)))) next

pub search_ends : (g : ℕ → Bool) (d : ℕ) (xs : List ℕ) (i : ℕ) → length xs ≤ i → first_of g d (drop i xs) ≡ d
search_ends g d [] zero le = refl
search_ends g d [] (suc i) le = refl
search_ends g d (x ∷ xs) zero le = absurd (omega (arith, le))
search_ends g d (x ∷ xs) (suc i) le = search_ends g d xs i (omega (arith, le))

-- ---- the walk

taken : (b : Bool) (xs : List ℤ) → b ≡ true → cond b xs [] ≡ xs
taken b xs is = rw is refl

left_out : (b : Bool) (xs : List ℤ) → b ≡ false → cond b xs [] ≡ []
left_out b xs is = rw is refl

pub walk_step : (faces : List (List ℤ)) (p : ℤ) (first : ℕ) (h : ℤ) (t more : ℕ) (out : List ℤ) → t ≡ position_or_len (is_followed p h) faces → t < length faces → t ≢ first
    → (out ++ pos (t + 1) ∷ []) ++ faces_from faces p first (behind (get_or faces t []) (place_followed p h (get_or faces t [])) 2) more ≡ out ++ faces_from faces p first h (suc more)
unfolding faces_from
walk_step faces p first h t more out e lt differs =
    let rest : ℕ → List ℤ = λ t. pos (t + 1) ∷ faces_from faces p first (behind (get_or faces t []) (place_followed p h (get_or faces t [])) 2) more in
    let goes_on : (nat_lt t (length faces) && not (t == first)) ≡ true = grind (arith, nat_tests, lt, differs) in
    append_assoc out (pos (t + 1) ∷ []) (faces_from faces p first (behind (get_or faces t []) (place_followed p h (get_or faces t [])) 2) more)
    ∙ ap (λ (l : List ℤ). out ++ l) (sym (taken (nat_lt t (length faces) && not (t == first)) (rest t) goes_on) ∙ ap (λ (t : ℕ). cond (nat_lt t (length faces) && not (t == first)) (rest t) []) e)

pub walk_ends : (faces : List (List ℤ)) (p : ℤ) (first : ℕ) (h : ℤ) (t more : ℕ) → t ≡ position_or_len (is_followed p h) faces → (length faces ≤ t) ⊎ (t ≡ first) → faces_from faces p first h (suc more) ≡ []
unfolding faces_from
walk_ends faces p first h t more e ends =
    let rest : ℕ → List ℤ = λ t. pos (t + 1) ∷ faces_from faces p first (behind (get_or faces t []) (place_followed p h (get_or faces t [])) 2) more in
    ap (λ (t : ℕ). cond (nat_lt t (length faces) && not (t == first)) (rest t) []) (sym e) ∙ left_out (nat_lt t (length faces) && not (t == first)) (rest t) (stops ends)
  where
    stops : (length faces ≤ t) ⊎ (t ≡ first) → (nat_lt t (length faces) && not (t == first)) ≡ false
    stops (inl le) = grind (arith, nat_tests, le)
    stops (inr same) = grind (arith, nat_tests, same)

pub walk_done : (faces : List (List ℤ)) (p : ℤ) (first : ℕ) (h : ℤ) → faces_from faces p first h 0 ≡ []
unfolding faces_from
walk_done faces p first h = refl

pub walk_next : (faces : List (List ℤ)) (p : ℤ) (first : ℕ) (h : ℤ) (t step : ℕ) (out put base : List ℤ) (next : ℤ) (face : List ℤ) (s : ℕ) → out ++ faces_from faces p first h (16 - step) ≡ base → step < 16 → t ≡ position_or_len (is_followed p h) faces → t < length faces → t ≢ first
    → put ≡ out ++ pos (t + 1) ∷ [] → face ≡ get_or faces t [] → s ≡ place_followed p h face → next ≡ behind face s 2 → put ++ faces_from faces p first next (16 - (step + 1)) ≡ base
walk_next faces p first h t step out put base next face s so_far lt e below differs pushed is at goes =
    let more : ℕ = 16 - (step + 1) in
    let left : suc (16 - (step + 1)) ≡ 16 - step = omega (arith, lt) in
    let follows : next ≡ behind (get_or faces t []) (place_followed p h (get_or faces t [])) 2 = goes ∙ ap (λ (k : ℕ). behind face k 2) at ∙ ap (λ (f : List ℤ). behind f (place_followed p h f) 2) is in
    ap (λ (l : List ℤ). l ++ faces_from faces p first next (16 - (step + 1))) pushed
    ∙ ap (λ (x : ℤ). (out ++ pos (t + 1) ∷ []) ++ faces_from faces p first x (16 - (step + 1))) follows
    ∙ walk_step faces p first h t (16 - (step + 1)) out e below differs
    ∙ ap (λ (k : ℕ). out ++ faces_from faces p first h k) left
    ∙ so_far

pub walk_stops : (faces : List (List ℤ)) (p : ℤ) (first : ℕ) (h : ℤ) (t step : ℕ) (out base : List ℤ) → out ++ faces_from faces p first h (16 - step) ≡ base → step < 16 → t ≡ position_or_len (is_followed p h) faces → (length faces ≤ t) ⊎ (t ≡ first) → out ≡ base
walk_stops faces p first h t step out base so_far lt e ends =
    let left : suc (16 - (step + 1)) ≡ 16 - step = omega (arith, lt) in
    sym (append-nil out) ∙ ap (λ (l : List ℤ). out ++ l) (sym (walk_ends faces p first h t (16 - (step + 1)) e ends)) ∙ ap (λ (k : ℕ). out ++ faces_from faces p first h k) left ∙ so_far

pub walk_full : (faces : List (List ℤ)) (p : ℤ) (first : ℕ) (h : ℤ) (step : ℕ) (out base : List ℤ) → out ++ faces_from faces p first h (16 - step) ≡ base → 16 ≤ step → out ≡ base
walk_full faces p first h step out base so_far le =
    let left : 0 ≡ 16 - step = omega (arith, le) in
    sym (append-nil out) ∙ ap (λ (l : List ℤ). out ++ l) (sym (walk_done faces p first h)) ∙ ap (λ (k : ℕ). out ++ faces_from faces p first h k) left ∙ so_far

-- the face that was found has a place
pub has_place : (faces : List (List ℤ)) (p h : ℤ) (t : ℕ) (face : List ℤ) (s : ℕ) → t ≡ position_or_len (is_followed p h) faces → t < length faces → face ≡ get_or faces t [] → s ≡ place_followed p h face → s < length face
has_place faces p h t face s e lt is at =
    let passes : is_followed p h (get_or faces t []) ≡ true = subst (λ (k : ℕ). is_followed p h (get_or faces k []) ≡ true) (sym e) (passes_at_first (is_followed p h) faces [] (subst (λ (k : ℕ). k < length faces) e lt)) in
    let here : is_followed p h face ≡ true = ap (is_followed p h) is ∙ passes in
    subst (λ (k : ℕ). k < length face) (sym at) (ltb-true (place_followed p h face) (length face) here)

-- ---- the first face

first_or_none : (faces : List (List ℤ)) (holders : List ℕ) (p : ℤ) → holders ≡ holding faces p → position_or_len (holds p) faces ≡ first_of (λ t. true) (length faces) holders
first_or_none faces holders p e = sym (least_holding faces p) ∙ ap (first_of (λ t. true) (length faces)) (sym e)

head_is : (d t : ℕ) (holders : List ℕ) → Some t ≡ slice_get holders 0 → first_of (λ t. true) d holders ≡ t
head_is d t [] is = absurd (cc (is))
head_is d t (x ∷ xs) is = let same : x ≡ t = cc (is) in same

none_is : (d : ℕ) (holders : List ℕ) → None ≡ slice_get holders 0 → first_of (λ t. true) d holders ≡ d
none_is d [] is = refl
none_is d (x ∷ xs) is = absurd (cc (is))

pub first_is : (faces : List (List ℤ)) (holders : List ℕ) (p : ℤ) (t : ℕ) → holders ≡ holding faces p → Some t ≡ slice_get holders 0 → position_or_len (holds p) faces ≡ t
first_is faces holders p t e is = first_or_none faces holders p e ∙ head_is (length faces) t holders is

head_below : (m t : ℕ) (holders : List ℕ) → Some t ≡ slice_get holders 0 → All (λ t. t < m) holders → t < m
head_below m t [] is all = absurd (cc (is))
head_below m t (x ∷ xs) is all = let same : x ≡ t = cc (is) in omega (arith, same, all 0 0 (omega arith))

pub first_below : (faces : List (List ℤ)) (holders : List ℕ) (p : ℤ) (t : ℕ) → holders ≡ holding faces p → Some t ≡ slice_get holders 0 → t < length faces
first_below faces holders p t e is = head_below (length faces) t holders is (in_range faces holders p e)

pub first_place : (faces : List (List ℤ)) (holders : List ℕ) (p : ℤ) (t : ℕ) (face : List ℤ) (s : ℕ) → holders ≡ holding faces p → Some t ≡ slice_get holders 0 → face ≡ get_or faces t [] → s ≡ place_of p face → s < length face
first_place faces holders p t face s e is at place =
    let first : position_or_len (holds p) faces ≡ t = first_is faces holders p t e is in
    let lt : t < length faces = first_below faces holders p t e is in
    let passes : holds p (get_or faces t []) ≡ true = subst (λ (k : ℕ). holds p (get_or faces k []) ≡ true) first (passes_at_first (holds p) faces [] (subst (λ (k : ℕ). k < length faces) (sym first) lt)) in
    subst (λ (k : ℕ). k < length face) (sym place) (place_held p face (ap (holds p) at ∙ passes))

pub dual_some : (faces : List (List ℤ)) (holders : List ℕ) (p : ℤ) (t : ℕ) (face : List ℤ) (s : ℕ) (h : ℤ) (put out : List ℤ) → holders ≡ holding faces p → Some t ≡ slice_get holders 0 → face ≡ get_or faces t [] → s ≡ place_of p face → h ≡ behind face s 2
    → put ≡ pos (t + 1) ∷ [] → out ≡ put ++ faces_from faces p t h 16 → out ≡ dual_face faces p
unfolding dual_face
dual_some faces holders p t face s h put out e is at place goes pushed rest =
    let whole : ℕ → List ℤ = λ k. pos (k + 1) ∷ faces_from faces p k (behind (get_or faces k []) (place_of p (get_or faces k [])) 2) 16 in
    let first : position_or_len (holds p) faces ≡ t = first_is faces holders p t e is in
    let lt : t < length faces = first_below faces holders p t e is in
    let follows : h ≡ behind (get_or faces t []) (place_of p (get_or faces t [])) 2 = goes ∙ ap (λ (k : ℕ). behind face k 2) place ∙ ap (λ (f : List ℤ). behind f (place_of p f) 2) at in
    let below : nat_lt t (length faces) ≡ true = grind (arith, nat_tests, lt) in
    rest
    ∙ ap (λ (l : List ℤ). l ++ faces_from faces p t h 16) pushed
    ∙ ap (λ (x : ℤ). pos (t + 1) ∷ faces_from faces p t x 16) follows
    ∙ sym (taken (nat_lt t (length faces)) (whole t) below)
    ∙ ap (λ (k : ℕ). cond (nat_lt k (length faces)) (whole k) []) (sym first)

pub dual_none : (faces : List (List ℤ)) (holders : List ℕ) (p : ℤ) (out : List ℤ) → holders ≡ holding faces p → None ≡ slice_get holders 0 → out ≡ [] → out ≡ dual_face faces p
unfolding dual_face
dual_none faces holders p out e is empty =
    let whole : ℕ → List ℤ = λ k. pos (k + 1) ∷ faces_from faces p k (behind (get_or faces k []) (place_of p (get_or faces k [])) 2) 16 in
    let first : position_or_len (holds p) faces ≡ length faces = first_or_none faces holders p e ∙ none_is (length faces) holders is in
    let past : nat_lt (length faces) (length faces) ≡ false = grind (arith, nat_tests) in
    empty ∙ sym (left_out (nat_lt (length faces) (length faces)) (whole (length faces)) past) ∙ ap (λ (k : ℕ). cond (nat_lt k (length faces)) (whole k) []) (sym first)
