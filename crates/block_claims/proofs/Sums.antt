-- Sums over views, and how often a number stands in a list.
use Rattle.std.proofs.Common.{◌≡◌, ◌≢◌, ℕ, zero, suc, ◌+◌, ◌<◌, ◌≤◌, List, [], ◌∷◌, length, set, Bool, true, false, cond, nat_eq, nat_lt, Contains, sum_by, count_by, get_or, refl, sym, ap, ◌∙◌, ⊎_elim, arith}
use mathlib.Core.Option.{some, some-ne-none, some-injective}
use lib.ListN.{get_elem?}
use native.Mathlib.Decide.{ℕ_discrete, dec_le}
use Rattle.std.proofs.lemmas.Bool.Decides.{nat_tests}
use Rattle.std.proofs.lemmas.List.Sums.{sum_by-cons, sum_by-set, get_or-le-sum_by}
use Rattle.atomic_table.proofs.Lists.{at_set, set_else}
use Rattle.block_claims.specs.declared.rule.View.{View}
use Rattle.block_claims.specs.Views.{spent_view, times}

abbrev pub one_if : Bool → ℕ
one_if b = cond b 1 0

abbrev pub zero_if : Bool → ℕ
zero_if b = cond b 0 1

module _ {X : Type 0} where
  pub index_at : (l : List X) (i : ℕ) (a : X) → get_elem? l i ≡ some a → (i < length l) × (get_or l i a ≡ a)
  index_at [] i a e = absurd (some-ne-none a (sym e))
  index_at (x ∷ xs) zero a e = (omega arith, some-injective x a e)
  index_at (x ∷ xs) (suc i) a e = let h = index_at xs i a e in (omega arith, h.1)

  -- the sum after a change of one item
  pub sum_set : (f : X → ℕ) (l : List X) (i : ℕ) (a b : X) → get_elem? l i ≡ some a → sum_by f (set l i b) + f a ≡ sum_by f l + f b
  sum_set f l i a b e =
      let p = index_at l i a e in
      let h = sum_by-set f l i b a p.0 in
      let k : f (get_or l i a) ≡ f a = ap f p.1 in omega arith

  pub part_le : (f : X → ℕ) (l : List X) (i : ℕ) (a : X) → get_elem? l i ≡ some a → f a ≤ sum_by f l
  part_le f l i a e =
      let p = index_at l i a e in
      let h = get_or-le-sum_by f l i a p.0 in
      let k : f (get_or l i a) ≡ f a = ap f p.1 in omega arith

  pub all_zero : (f : X → ℕ) (l : List X) → ((j : ℕ) (u : X) → get_elem? l j ≡ some u → f u ≡ 0) → sum_by f l ≡ 0
  all_zero f [] quiet = refl
  all_zero f (x ∷ xs) quiet =
      let here : f x ≡ 0 = quiet 0 x refl in
      let rest = all_zero f xs (λ j u e. quiet (suc j) u e) in
      let s = sum_by-cons f x xs in omega arith

  pub some_part : (f : X → ℕ) (l : List X) → 1 ≤ sum_by f l → (i : ℕ) × (a : X) × (get_elem? l i ≡ some a) × (1 ≤ f a)
  some_part f [] h = absurd (omega arith)
  some_part f (x ∷ xs) h = pick (dec_le 1 (f x)) (λ k. some_part f xs k)
    where
      pick : Dec (1 ≤ f x) → (1 ≤ sum_by f xs → (i : ℕ) × (a : X) × (get_elem? xs i ≡ some a) × (1 ≤ f a))
          → (i : ℕ) × (a : X) × (get_elem? (x ∷ xs) i ≡ some a) × (1 ≤ f a)
      pick (yes y) rest = (0, x, refl, y)
      pick (no n) rest = let s = sum_by-cons f x xs in let r = rest (omega arith) in (suc r.0, r.1, r.2, r.3)

  -- those that pass a test and those that fail it are all
  pub both_counts : (p : X → Bool) (l : List X) → sum_by (λ x. zero_if (p x)) l + count_by p l ≡ length l
  both_counts p [] = refl
  both_counts p (x ∷ xs) =
      let h = both_counts p xs in
      let a = sum_by-cons (λ y. zero_if (p y)) x xs in
      let b = sum_by-cons (λ y. one_if (p y)) x xs in
      let c = one_or_other (p x) in omega arith
    where
      one_or_other : (b : Bool) → zero_if b + one_if b ≡ 1
      one_or_other true = refl
      one_or_other false = refl

-- the views of two tickets are parts of the sum
pub two_parts : (f : View → ℕ) → f spent_view ≡ 0 → (views : List View) (i j : ℕ) (a b : View) → get_elem? views i ≡ some a → get_elem? views j ≡ some b → j ≢ i → f a + f b ≤ sum_by f views
two_parts f none views i j a b at there apart =
    let h = sum_set f views i a spent_view at in
    let k = part_le f (set views i spent_view) j b (set_else views i j spent_view apart ∙ there) in omega arith

-- where f is 0 of all views but one, the sum is that one's
pub sum_only : (f : View → ℕ) → f spent_view ≡ 0 → (views : List View) (i : ℕ) (a : View) → get_elem? views i ≡ some a → ((j : ℕ) (u : View) → get_elem? views j ≡ some u → j ≢ i → f u ≡ 0) → sum_by f views ≡ f a
sum_only f none views i a at quiet =
    let h = sum_set f views i a spent_view at in
    let z : sum_by f (set views i spent_view) ≡ 0 = all_zero f (set views i spent_view) (λ j u e.
    ⊎_elim (λ (t : (j ≡ i) × (spent_view ≡ u)). ap f (sym t.1) ∙ none) (λ (t : (j ≢ i) × (get_elem? views j ≡ some u)). quiet j u t.1 t.0) (at_set views i j spent_view u e)) in omega arith

its_own : (x : ℕ) → one_if (nat_eq x x) ≡ 1
its_own x = grind (arith, nat_tests)

pub stands : (x : ℕ) (xs : List ℕ) → Contains xs x → 1 ≤ times x xs
stands x xs (k, inside, e) =
    let h = get_or-le-sum_by (λ y. one_if (nat_eq y x)) xs k x inside in
    let one : one_if (nat_eq (get_or xs k x) x) ≡ 1 = ap (λ y. one_if (nat_eq y x)) e ∙ its_own x in omega arith

pub found : (x : ℕ) (xs : List ℕ) → 1 ≤ times x xs → Contains xs x
found x [] h = absurd (omega arith)
found x (y ∷ ys) h = pick (ℕ_discrete y x) (λ k. found x ys k)
  where
    pick : Dec (y ≡ x) → (1 ≤ times x ys → Contains ys x) → Contains (y ∷ ys) x
    pick (yes e) rest = (0, omega arith, e)
    pick (no apart) rest =
        let s = sum_by-cons (λ z. one_if (nat_eq z x)) y ys in
        let z : one_if (nat_eq y x) ≡ 0 = grind (arith, nat_tests) in
        let r = rest (omega arith) in (suc r.0, omega (arith, r.1), r.2)

-- Numbers below n, none twice, are at most n.
abbrev put : Bool → ℕ → List ℕ → List ℕ
put true x r = r
put false x r = x ∷ r

abbrev without : ℕ → List ℕ → List ℕ
without n [] = []
without n (x ∷ xs) = put (nat_eq x n) x (without n xs)

length_put : (b : Bool) (x : ℕ) (r : List ℕ) → length (put b x r) + one_if b ≡ suc (length r)
length_put true x r = omega arith
length_put false x r = omega arith

length_without : (n : ℕ) (xs : List ℕ) → length (without n xs) + times n xs ≡ length xs
length_without n [] = refl
length_without n (x ∷ xs) =
    let h = length_without n xs in
    let k = length_put (nat_eq x n) x (without n xs) in
    let s = sum_by-cons (λ y. one_if (nat_eq y n)) x xs in omega arith

times_put : (b : Bool) (x n y : ℕ) (r : List ℕ) → nat_eq x n ≡ b → y ≢ n → times y (put b x r) ≡ one_if (nat_eq x y) + times y r
times_put true x n y r e apart = let same : x ≡ n = grind (arith, nat_tests) in let other : one_if (nat_eq x y) ≡ 0 = grind (arith, nat_tests) in omega arith
times_put false x n y r e apart = sum_by-cons (λ z. one_if (nat_eq z y)) x r

times_put_it : (b : Bool) (x n : ℕ) (r : List ℕ) → nat_eq x n ≡ b → times n (put b x r) ≡ times n r
times_put_it true x n r e = refl
times_put_it false x n r e =
    let other : one_if (nat_eq x n) ≡ 0 = ap (λ b. one_if b) e in
    let s = sum_by-cons (λ z. one_if (nat_eq z n)) x r in omega arith

times_without : (n y : ℕ) (xs : List ℕ) → y ≢ n → times y (without n xs) ≡ times y xs
times_without n y [] apart = refl
times_without n y (x ∷ xs) apart =
    let h = times_without n y xs apart in
    let k = times_put (nat_eq x n) x n y (without n xs) refl apart in
    let s = sum_by-cons (λ z. one_if (nat_eq z y)) x xs in omega arith

times_without_it : (n : ℕ) (xs : List ℕ) → times n (without n xs) ≡ 0
times_without_it n [] = refl
times_without_it n (x ∷ xs) = let h = times_without_it n xs in let k = times_put_it (nat_eq x n) x n (without n xs) refl in omega arith

less_by_one : (n x : ℕ) → x ≢ n → one_if (nat_lt x (suc n)) ≡ one_if (nat_lt x n)
less_by_one n x apart = grind (arith, nat_tests)

at_top : (n : ℕ) → one_if (nat_lt n (suc n)) ≡ 1
at_top n = grind (arith, nat_tests)

below_zero : (x : ℕ) → one_if (nat_lt x 0) ≡ 0
below_zero x = grind (arith, nat_tests)

pub few_below : (n : ℕ) (xs : List ℕ) → ((x : ℕ) → times x xs ≤ one_if (nat_lt x n)) → length xs ≤ n
few_below zero [] h = omega arith
few_below zero (x ∷ xs) h =
    let a = h x in
    let b = stands x (x ∷ xs) (0, omega arith, refl) in
    let z = below_zero x in absurd (omega arith)
few_below (suc n) xs h =
    let shorter = few_below n (without n xs) (λ x. one n xs h x (ℕ_discrete x n)) in
    let k = length_without n xs in let a = h n in let b = at_top n in omega arith
  where
    one : (n : ℕ) (xs : List ℕ) → ((x : ℕ) → times x xs ≤ one_if (nat_lt x (suc n))) → (x : ℕ) → Dec (x ≡ n) → times x (without n xs) ≤ one_if (nat_lt x n)
    one n xs h x (yes e) = let z : times x (without n xs) ≡ 0 = ap (λ k. times k (without n xs)) e ∙ times_without_it n xs in omega arith
    one n xs h x (no apart) = let a = h x in let b = times_without n x xs apart in let c = less_by_one n x apart in omega arith
