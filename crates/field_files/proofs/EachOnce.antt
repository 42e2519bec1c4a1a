-- Numbers that are kept once, and their places.
use Rattle.std.proofs.Common.{◌≡◌, ℕ, suc, ◌+◌, ◌<◌, ◌≤◌, Bool, true, false, not, ◌==◌, if◌then◌else◌, inl, inr, List, [], ◌∷◌, ◌++◌, length, take, get_or, set, replicate, All, Option, Some, None, is_some, unwrap_or, refl, ap, sym, subst, ◌∙◌, arith}
use Rattle.std.specs.List.{filter}
use Rattle.std.proofs.lemmas.Bool.{cases_eq, cases_lt, cases_Bool, lt-ltb, le-ltb, eq-eqb, ne_eqb, eqb-true, eqb-false}
use Rattle.std.proofs.lemmas.List.{get_or-set_same, get_or-set_other, get_or-replicate, length-set, length-append, length-replicate, length-take, take_more, append-nil, get_or_default}
use Rattle.std.proofs.lemmas.List.Elements.{filter-append, All-from_recursion}
use Rattle.std.specs.List.{AllByRecursion}
use Rattle.field_files.specs.FieldDocument.{each_once, place_among}
use Rattle.field_files.specs.NewPlaces.{place_in, ArePlacesOf}

-- Places.

place_here : (x id : ℕ) (xs : List ℕ) → (x == id) ≡ true → place_among (x ∷ xs) id ≡ 0
place_here x id xs h = ap (λ (b : Bool). if b then 0 else suc (place_among xs id)) h

place_on : (x id : ℕ) (xs : List ℕ) → (x == id) ≡ false → place_among (x ∷ xs) id ≡ suc (place_among xs id)
place_on x id xs h = ap (λ (b : Bool). if b then 0 else suc (place_among xs id)) h

-- a place is no further than the end
pub place_within : (xs : List ℕ) (id : ℕ) → place_among xs id ≤ length xs
place_within [] id = omega arith
place_within (x ∷ xs) id = elim (cases_Bool (x == id)) [
  | inl here ↦ omega (arith, place_here x id xs here)
  | inr on ↦ omega (arith, place_on x id xs on, place_within xs id)
]

-- at the place stands the number
pub at_place : (xs : List ℕ) (id : ℕ) → place_among xs id < length xs → get_or xs (place_among xs id) 0 ≡ id
at_place [] id h = absurd (omega arith)
at_place (x ∷ xs) id h = elim (cases_Bool (x == id)) [
  | inl here ↦ ap (λ (k : ℕ). get_or (x ∷ xs) k 0) (place_here x id xs here) ∙ eqb-true x id here
  | inr on ↦ ap (λ (k : ℕ). get_or (x ∷ xs) k 0) (place_on x id xs on) ∙ at_place xs id (omega (arith, h, place_on x id xs on))
]

-- one number more behind them
push_known : (xs : List ℕ) (y id : ℕ) → place_among xs id < length xs → place_among (xs ++ y ∷ []) id ≡ place_among xs id
push_known [] y id h = absurd (omega arith)
push_known (x ∷ xs) y id h = elim (cases_Bool (x == id)) [
  | inl here ↦ place_here x id (xs ++ y ∷ []) here ∙ sym (place_here x id xs here)
  | inr on ↦ place_on x id (xs ++ y ∷ []) on ∙ ap suc (push_known xs y id (omega (arith, h, place_on x id xs on))) ∙ sym (place_on x id xs on)
]

push_new : (xs : List ℕ) (id : ℕ) → length xs ≤ place_among xs id → place_among (xs ++ id ∷ []) id ≡ length xs
push_new [] id h = place_here id id [] (eq-eqb id id refl)
push_new (x ∷ xs) id h = elim (cases_Bool (x == id)) [
  | inl here ↦ absurd (omega (arith, h, place_here x id xs here))
  | inr on ↦ place_on x id (xs ++ id ∷ []) on ∙ ap suc (push_new xs id (omega (arith, h, place_on x id xs on)))
]

push_other : (xs : List ℕ) (y id : ℕ) → (y == id) ≡ false → length xs ≤ place_among xs id → place_among (xs ++ y ∷ []) id ≡ suc (length xs)
push_other [] y id apart h = place_on y id [] apart
push_other (x ∷ xs) y id apart h = elim (cases_Bool (x == id)) [
  | inl here ↦ absurd (omega (arith, h, place_here x id xs here))
  | inr on ↦ place_on x id (xs ++ y ∷ []) on ∙ ap suc (push_other xs y id apart (omega (arith, h, place_on x id xs on)))
]

-- the place of a number that is there, and of another one
known_place : (kept : List ℕ) (id : ℕ) → place_among kept id < length kept → place_in kept id ≡ Some (place_among kept id)
known_place kept id within = ap (λ (b : Bool). if b then Some (place_among kept id) else None) (lt-ltb (place_among kept id) (length kept) within)

no_place : (kept : List ℕ) (id : ℕ) → length kept ≤ place_among kept id → place_in kept id ≡ None
no_place kept id past = ap (λ (b : Bool). if b then Some (place_among kept id) else None) (le-ltb (place_among kept id) (length kept) past)

-- What is left without a number.

abbrev pub without : ℕ → List ℕ → List ℕ
without x xs = filter (λ other. not (other == x)) xs

without_it : (x y : ℕ) (ys : List ℕ) → (y == x) ≡ true → without x (y ∷ ys) ≡ without x ys
without_it x y ys h = ap (λ (b : Bool). if not b then y ∷ without x ys else without x ys) h

without_other : (x y : ℕ) (ys : List ℕ) → (y == x) ≡ false → without x (y ∷ ys) ≡ y ∷ without x ys
without_other x y ys h = ap (λ (b : Bool). if not b then y ∷ without x ys else without x ys) h

pub without_short : (x : ℕ) (xs : List ℕ) → length (without x xs) ≤ length xs
without_short x [] = omega arith
without_short x (y ∷ ys) = elim (cases_Bool (y == x)) [
  | inl it ↦ omega (arith, ap length (without_it x y ys it), without_short x ys)
  | inr other ↦ omega (arith, ap length (without_other x y ys other), without_short x ys)
]

apart_from : (x y id : ℕ) → (x == id) ≡ false → (y == x) ≡ true → (y == id) ≡ false
apart_from x y id apart same = ap (λ (n : ℕ). n == id) (eqb-true y x same) ∙ apart

-- another number is there without it just where it is there with it
without_keeps : (x id : ℕ) (xs : List ℕ) → (x == id) ≡ false → place_among xs id < length xs → place_among (without x xs) id < length (without x xs)
without_keeps x id [] apart h = absurd (omega arith)
without_keeps x id (y ∷ ys) apart h = elim (cases_Bool (y == x)) [
  | inl it ↦ subst (λ (l : List ℕ). place_among l id < length l) (sym (without_it x y ys it)) (without_keeps x id ys apart (omega (arith, h, place_on y id ys (apart_from x y id apart it))))
  | inr other ↦ subst (λ (l : List ℕ). place_among l id < length l) (sym (without_other x y ys other)) (elim (cases_Bool (y == id)) [
    | inl here ↦ omega (arith, place_here y id (without x ys) here)
    | inr on ↦ omega (arith, place_on y id (without x ys) on, without_keeps x id ys apart (omega (arith, h, place_on y id ys on)))
  ])
]

without_lacks : (x id : ℕ) (xs : List ℕ) → (x == id) ≡ false → length xs ≤ place_among xs id → length (without x xs) ≤ place_among (without x xs) id
without_lacks x id [] apart h = omega arith
without_lacks x id (y ∷ ys) apart h = elim (cases_Bool (y == x)) [
  | inl it ↦ subst (λ (l : List ℕ). length l ≤ place_among l id) (sym (without_it x y ys it)) (without_lacks x id ys apart (omega (arith, h, place_on y id ys (apart_from x y id apart it))))
  | inr other ↦ subst (λ (l : List ℕ). length l ≤ place_among l id) (sym (without_other x y ys other)) (elim (cases_Bool (y == id)) [
    | inl here ↦ absurd (omega (arith, h, place_here y id ys here))
    | inr on ↦ omega (arith, place_on y id (without x ys) on, without_lacks x id ys apart (omega (arith, h, place_on y id ys on)))
  ])
]

-- Numbers kept once.

pub each_once_short : (xs : List ℕ) → length (each_once xs) ≤ length xs
unfolding each_once
each_once_short [] = omega arith
each_once_short (x ∷ xs) = omega (arith, without_short x (each_once xs), each_once_short xs)

-- each of them is kept
pub all_kept : (xs : List ℕ) → All (λ id. place_among (each_once xs) id < length (each_once xs)) xs
unfolding each_once
all_kept xs = All-from_recursion (λ id. place_among (each_once xs) id < length (each_once xs)) xs (kept xs)
  where
    more : (x : ℕ) (kept ids : List ℕ) → AllByRecursion (λ id. place_among kept id < length kept) ids → AllByRecursion (λ id. place_among (x ∷ without x kept) id < length (x ∷ without x kept)) ids
    more x kept [] h = tt
    more x kept (id ∷ ids) h =
        let here : place_among (x ∷ without x kept) id < length (x ∷ without x kept) = elim (cases_Bool (x == id)) [
          | inl same ↦ omega (arith, place_here x id (without x kept) same)
          | inr other ↦ omega (arith, place_on x id (without x kept) other, without_keeps x id kept other h.0)
        ] in
        (here, more x kept ids h.1)

    kept : (xs : List ℕ) → AllByRecursion (λ id. place_among (each_once xs) id < length (each_once xs)) xs
    kept [] = tt
    kept (x ∷ xs) =
        let first : place_among (x ∷ without x (each_once xs)) x < length (x ∷ without x (each_once xs)) = omega (arith, place_here x x (without x (each_once xs)) (eq-eqb x x refl)) in
        (first, more x (each_once xs) xs (kept xs))

-- a number that is kept is not kept again, and another one is
pub record Grows (xs : List ℕ) (y : ℕ) : Type 0 where
  pub known : place_among (each_once xs) y < length (each_once xs) → each_once (xs ++ y ∷ []) ≡ each_once xs
  pub other : length (each_once xs) ≤ place_among (each_once xs) y → each_once (xs ++ y ∷ []) ≡ each_once xs ++ y ∷ []

pub grows : (xs : List ℕ) (y : ℕ) → Grows xs y
unfolding each_once
grows [] y = record { known = λ h. absurd (omega arith); other = λ h. refl }
grows (x ∷ xs) y =
    let kept = each_once xs in
    let rest = without x kept in
    let so_far = grows xs y in
    elim (cases_Bool (x == y)) [
      | inl same ↦ record {
        known = λ h. elim (cases_lt (place_among kept y) (length kept)) [
          | inl within ↦ ap (λ l. x ∷ without x l) (so_far.known within)
          | inr past ↦ ap (λ l. x ∷ without x l) (so_far.other past)
              ∙ ap (λ l. x ∷ l) (filter-append (λ other. not (other == x)) kept (y ∷ []) ∙ ap (λ l. rest ++ l) (without_it x y [] (eq-eqb y x (sym (eqb-true x y same)))) ∙ append-nil rest)
        ];
        other = λ h. absurd (omega (arith, h, place_here x y rest same));
      }
      | inr apart ↦ record {
        known = λ h. elim (cases_lt (place_among kept y) (length kept)) [
          | inl within ↦ ap (λ l. x ∷ without x l) (so_far.known within)
          | inr past ↦ absurd (omega (arith, h, place_on x y rest apart, without_lacks x y kept apart past))
        ];
        other = λ h. elim (cases_lt (place_among kept y) (length kept)) [
          | inl within ↦ absurd (omega (arith, h, place_on x y rest apart, without_keeps x y kept apart within))
          | inr past ↦ ap (λ l. x ∷ without x l) (so_far.other past)
              ∙ ap (λ l. x ∷ l) (filter-append (λ other. not (other == x)) kept (y ∷ []) ∙ ap (λ l. rest ++ l) (without_other x y [] (ne_eqb y x (λ e. eqb-false x y apart (sym e)))))
        ];
      }
    ]

-- Steps of the pass.

some_place : (kept : List ℕ) (id k : ℕ) → place_in kept id ≡ Some k → (place_among kept id < length kept) × (place_among kept id ≡ k)
some_place kept id k h = elim (cases_lt (place_among kept id) (length kept)) [
  | inl within ↦ (within, let e : Some (place_among kept id) ≡ Some k = sym (known_place kept id within) ∙ h in cc)
  | inr past ↦ absurd (let e : None ≡ Some k = sym (no_place kept id past) ∙ h in cc)
]

no_place_past : (kept : List ℕ) (id : ℕ) → place_in kept id ≡ None → length kept ≤ place_among kept id
no_place_past kept id h = elim (cases_lt (place_among kept id) (length kept)) [
  | inl within ↦ absurd (let e : Some (place_among kept id) ≡ None = sym (known_place kept id within) ∙ h in cc)
  | inr past ↦ past
]

more_taken : (leading : List ℕ) (i id : ℕ) → i < length leading → get_or leading i 0 ≡ id → take (i + 1) leading ≡ take i leading ++ id ∷ []
more_taken leading i id within is = take_more leading i 0 within ∙ ap (λ (n : ℕ). take i leading ++ n ∷ []) is

pub known_step : (leading : List ℕ) (i id count k : ℕ) (places : List (Option ℕ)) → i < length leading → get_or leading i 0 ≡ id → id < count → ArePlacesOf (each_once (take i leading)) count places → get_or places id None ≡ Some k → each_once (take (i + 1) leading) ≡ each_once (take i leading)
known_step leading i id count k places within is small table found =
    ap each_once (more_taken leading i id within is) ∙ (grows (take i leading) id).known (some_place (each_once (take i leading)) id k (sym (table.each id small) ∙ found)).0

-- the table after a number is put behind those that are kept
table_push : (kept : List ℕ) (count id : ℕ) (places : List (Option ℕ)) → id < count → length kept ≤ place_among kept id → ArePlacesOf kept count places → ArePlacesOf (kept ++ id ∷ []) count (set places id (Some (length kept)))
table_push kept count id places small past table = record {
  len = length-set places id (Some (length kept)) ∙ table.len;
  each = λ j below. elim (cases_eq j id) [
    | inl same ↦
        ap (λ (n : ℕ). get_or (set places id (Some (length kept))) n None) same
        ∙ get_or-set_same places id (Some (length kept)) None (omega (arith, small, table.len))
        ∙ ap (λ (n : ℕ). Some n) (sym (push_new kept id past))
        ∙ sym (known_place (kept ++ id ∷ []) id (omega (arith, push_new kept id past, length-append kept (id ∷ []))))
        ∙ ap (place_in (kept ++ id ∷ [])) (sym same)
    | inr apart ↦ get_or-set_other places id j (Some (length kept)) None apart ∙ table.each j below ∙ others j (ne_eqb id j (λ e. apart (sym e)))
  ];
}
  where
    others : (j : ℕ) → (id == j) ≡ false → place_in kept j ≡ place_in (kept ++ id ∷ []) j
    others j apart = elim (cases_lt (place_among kept j) (length kept)) [
      | inl within ↦
          known_place kept j within
          ∙ ap (λ (n : ℕ). Some n) (sym (push_known kept id j within))
          ∙ sym (known_place (kept ++ id ∷ []) j (omega (arith, within, push_known kept id j within, length-append kept (id ∷ []))))
      | inr out ↦ no_place kept j out ∙ sym (no_place (kept ++ id ∷ []) j (omega (arith, push_other kept id j apart out, length-append kept (id ∷ []))))
    ]

pub record IsNewStep (leading : List ℕ) (i id count : ℕ) (places : List (Option ℕ)) : Type 0 where
  pub kept : each_once (take (i + 1) leading) ≡ each_once (take i leading) ++ id ∷ []
  pub table : ArePlacesOf (each_once (take (i + 1) leading)) count (set places id (Some (length (each_once (take i leading)))))

pub new_step : (leading : List ℕ) (i id count : ℕ) (places : List (Option ℕ)) → i < length leading → get_or leading i 0 ≡ id → id < count → ArePlacesOf (each_once (take i leading)) count places → get_or places id None ≡ None → IsNewStep leading i id count places
new_step leading i id count places within is small table none =
    let kept = each_once (take i leading) in
    let past = no_place_past kept id (sym (table.each id small) ∙ none) in
    let more : each_once (take (i + 1) leading) ≡ kept ++ id ∷ [] = ap each_once (more_taken leading i id within is) ∙ (grows (take i leading) id).other past in
    record {
      kept = more;
      table = subst (λ (l : List ℕ). ArePlacesOf l count (set places id (Some (length kept)))) (sym more) (table_push kept count id places small past table);
    }

-- before the first step
pub first_table : (leading : List ℕ) (count : ℕ) → ArePlacesOf (each_once (take 0 leading)) count (replicate count None)
unfolding each_once
first_table leading count = record { len = length-replicate {A = Option ℕ} count None; each = λ id below. get_or-replicate count id None None below }

pub first_kept : (leading : List ℕ) → [] ≡ each_once (take 0 leading)
unfolding each_once
first_kept leading = refl

pub few_kept : (leading : List ℕ) (i : ℕ) → i ≤ length leading → length (each_once (take i leading)) ≤ i
few_kept leading i le = omega (arith, each_once_short (take i leading), length-take i leading)

-- what a read of the table says, where it is none and where it is some place
pub read_none : (places : List (Option ℕ)) (i : ℕ) (r : Option ℕ) → r ≡ get_or places i r → is_some r ≡ false → get_or places i None ≡ None
read_none places i None h none = sym h
read_none places i (Some k) h none = absurd cc

pub read_some : (places : List (Option ℕ)) (i : ℕ) (r : Option ℕ) → i < length places → r ≡ get_or places i r → is_some r ≡ true → (k : ℕ) × (get_or places i None ≡ Some k)
read_some places i None within h some = absurd cc
read_some places i (Some k) within h some = (k, get_or_default places i None (Some k) within ∙ sym h)

-- what is read at a number that is kept
pub place_read : (kept : List ℕ) (count id n : ℕ) (places : List (Option ℕ)) (r : Option ℕ) → ArePlacesOf kept count places → id < count → place_among kept id < length kept → r ≡ get_or places id r → n ≡ unwrap_or r 0 → n ≡ place_among kept id
place_read kept count id n places r table small within read is =
    let same : r ≡ Some (place_among kept id) = read ∙ get_or_default places id r None (omega (arith, small, table.len)) ∙ table.each id small ∙ known_place kept id within in
    is ∙ ap (λ (o : Option ℕ). unwrap_or o 0) same
