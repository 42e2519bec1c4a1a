-- The first face that passes among those that hold a node is the first that passes at all.
use Rattle.std.proofs.Common.{◌≡◌, ◌∙◌, ◌+◌, ◌%◌, ◌≤◌, ◌<◌, ℕ, zero, suc, ℤ, pos, Bool, true, false, cond, ◌&&◌, ◌||◌, List, [], ◌∷◌, ◌++◌, length, get_or, inl, inr, ◌⊎◌, refl, sym, ap, subst, arith}
use Rattle.std.specs.List.{flat_map, position_or_len, range_with_len}
use Rattle.std.specs.Ordering.{int_eq}
use Rattle.std.proofs.lemmas.Bool.{ltb-true}
use Rattle.std.proofs.Math.Nat.{mod-eq_of_lt}
use Rattle.std.proofs.lemmas.List.Folds.{list_any-from_Any}
use Rattle.std.proofs.lemmas.List.FromFn.{get_or-range_with_len, length-range_with_len}
use Rattle.std.proofs.lemmas.List.Sums.{passes_at_first, position_or_len_is}
use Rattle.gen_ico.specs.Dual.{behind, has_at, holds, is_followed, place_followed}
use Rattle.gen_ico.proofs.Takes.{get_or_again}
use Rattle.gen_ico.specs.Holding.{hit, hits, holding, holding_below}

-- the first number of a list that passes, or d
abbrev pub first_of : (ℕ → Bool) → ℕ → List ℕ → ℕ
first_of g d [] = d
first_of g d (x ∷ xs) = cond (g x) x (first_of g d xs)

first_append : (g : ℕ → Bool) (d : ℕ) (xs ys : List ℕ) → first_of g d (xs ++ ys) ≡ first_of g (first_of g d ys) xs
first_append g d [] ys = refl
first_append g d (x ∷ xs) ys = ap (cond (g x) x) (first_append g d xs ys)

-- a face that doesn't pass
no_hit : (g : ℕ → Bool) (p : ℤ) (t d : ℕ) (face : List ℤ) → g t ≡ false → first_of g d (hits p t face) ≡ d
no_hit g p t d [] fails = refl
no_hit g p t d (x ∷ xs) fails = first_append g d (hit p t x) (hits p t xs) ∙ ap (λ e. first_of g e (hit p t x)) (no_hit g p t d xs fails) ∙ skip (int_eq x p)
  where
    skip : (b : Bool) → first_of g d (cond b (t ∷ []) []) ≡ d
    skip true = ap (λ b. cond b t d) fails
    skip false = refl

-- a face that passes
hit_or_later : (g : ℕ → Bool) (p : ℤ) (t d : ℕ) (b : Bool) (xs : List ℤ) → g t ≡ true → first_of g d (hits p t xs) ≡ cond (holds p xs) t d → first_of g (first_of g d (hits p t xs)) (cond b (t ∷ []) []) ≡ cond (b || holds p xs) t d
hit_or_later g p t d true xs passes later = ap (λ b. cond b t (first_of g d (hits p t xs))) passes
hit_or_later g p t d false xs passes later = later

one_hit : (g : ℕ → Bool) (p : ℤ) (t d : ℕ) (face : List ℤ) → g t ≡ true → first_of g d (hits p t face) ≡ cond (holds p face) t d
one_hit g p t d [] passes = refl
one_hit g p t d (x ∷ xs) passes = first_append g d (hit p t x) (hits p t xs) ∙ hit_or_later g p t d (int_eq x p) xs passes (one_hit g p t d xs passes)

-- where only faces that hold p pass
hit_passes : (g : ℕ → Bool) (p : ℤ) (t d : ℕ) (face : List ℤ) (b : Bool) → g t ≡ b → (g t ≡ true → holds p face ≡ true) → first_of g d (hits p t face) ≡ cond b t d
hit_passes g p t d face true is held = one_hit g p t d face is ∙ ap (λ b. cond b t d) (held is)
hit_passes g p t d face false is held = no_hit g p t d face is

-- piece by piece
first_flat : (q g : ℕ → Bool) (f : ℕ → List ℕ) (d a k : ℕ) → ((t e : ℕ) → first_of q e (f t) ≡ cond (g t) t e) → first_of q d (flat_map f (range_with_len a k)) ≡ first_of g d (range_with_len a k)
first_flat q g f d a zero h = refl
first_flat q g f d a (suc k) h = first_append q d (f a) (flat_map f (range_with_len (a + 1) k)) ∙ h a _ ∙ ap (cond (g a) a) (first_flat q g f d (a + 1) k h)

-- the least number from a on, and below d, that passes, or d
record IsLeast (g : ℕ → Bool) (a d r : ℕ) : Type 0 where
  low : a ≤ r
  high : r ≤ d
  before : (i : ℕ) → a ≤ i → i < r → g i ≡ false
  passes : r < d → g r ≡ true

least_next : (g : ℕ → Bool) (a d r : ℕ) (b : Bool) → g a ≡ b → a + 1 ≤ d → IsLeast g (a + 1) d r → IsLeast g a d (cond b a r)
least_next g a d r true is le h = record { low = omega arith; high = omega (arith, le); before = λ i low high. absurd (omega (arith, low, high)); passes = λ _. is }
least_next g a d r false is le h = record {
  low = omega (arith, h.low);
  high = h.high;
  before = λ i low high. by_case i high (at_or_above i low);
  passes = h.passes;
}
  where
    at_or_above : (i : ℕ) → a ≤ i → (i ≡ a) ⊎ (a + 1 ≤ i)
    at_or_above i low = grind (arith, low)

    by_case : (i : ℕ) → i < r → (i ≡ a) ⊎ (a + 1 ≤ i) → g i ≡ false
    by_case i high (inl e) = ap g e ∙ is
    by_case i high (inr above) = h.before i above high

least_range : (g : ℕ → Bool) (d a k : ℕ) → a + k ≡ d → IsLeast g a d (first_of g d (range_with_len a k))
least_range g d a zero e = record { low = omega (arith, e); high = omega arith; before = λ i low high. absurd (omega (arith, e, low, high)); passes = λ lt. absurd (omega (arith, lt)) }
least_range g d a (suc k) e = least_next g a d (first_of g d (range_with_len (a + 1) k)) (g a) refl (omega (arith, e)) (least_range g d (a + 1) k (omega (arith, e)))

least_place : (f : List ℤ → Bool) (faces : List (List ℤ)) → first_of (λ t. f (get_or faces t [])) (length faces) (range_with_len 0 (length faces)) ≡ position_or_len f faces
least_place f faces =
    let g : ℕ → Bool = λ t. f (get_or faces t []) in
    let r : ℕ = first_of g (length faces) (range_with_len 0 (length faces)) in
    let least : IsLeast g 0 (length faces) r = least_range g (length faces) 0 (length faces) (omega arith) in
    sym (position_or_len_is f faces r [] least.high (λ k lt. least.before k (omega arith) lt) least.passes)

-- the place at which p is followed by h
pub followed_at : (p h : ℤ) (face : List ℤ) → place_followed p h face < length face → has_at p h face (place_followed p h face) ≡ true
unfolding place_followed
followed_at p h face lt =
    let places = range_with_len 0 (length face) in
    let s : ℕ = position_or_len (has_at p h face) places in
    let at : get_or places s 0 ≡ s = get_or-range_with_len 0 (length face) s 0 lt ∙ omega arith in
    ap (has_at p h face) (sym at) ∙ passes_at_first (has_at p h face) places 0 (subst (λ n. s < n) (sym (length-range_with_len 0 (length face))) lt)

both_left : (a b : Bool) → (a && b) ≡ true → a ≡ true
both_left true b h = refl
both_left false b h = h

pub holds_if_followed : (p h : ℤ) (face : List ℤ) → is_followed p h face ≡ true → holds p face ≡ true
holds_if_followed p h face followed =
    let s : ℕ = place_followed p h face in
    let lt : s < length face = ltb-true s (length face) followed in
    let first : int_eq (behind face s 0) p ≡ true = both_left (int_eq (behind face s 0) p) (int_eq (behind face s 1) h) (followed_at p h face lt) in
    let same : (s + 0) % length face ≡ s = ap (λ (n : ℕ). n % length face) (omega arith) ∙ mod-eq_of_lt lt in
    list_any-from_Any (λ number. int_eq number p) face (s, get_or face s (pos 0), lt, get_or_again face s (pos 0) lt, subst (λ n. int_eq (get_or face n (pos 0)) p ≡ true) same first)

-- the least face in which p is followed by h
pub least_followed : (faces : List (List ℤ)) (p h : ℤ) → first_of (λ t. is_followed p h (get_or faces t [])) (length faces) (holding faces p) ≡ position_or_len (is_followed p h) faces
unfolding holding_below
least_followed faces p h =
    let g : ℕ → Bool = λ t. is_followed p h (get_or faces t []) in
    first_flat g g (λ t. hits p t (get_or faces t [])) (length faces) 0 (length faces) (λ t e. hit_passes g p t e (get_or faces t []) (g t) refl (holds_if_followed p h (get_or faces t [])))
    ∙ least_place (is_followed p h) faces

-- the least face that holds p
pub least_holding : (faces : List (List ℤ)) (p : ℤ) → first_of (λ t. true) (length faces) (holding faces p) ≡ position_or_len (holds p) faces
unfolding holding_below
least_holding faces p =
    first_flat (λ t. true) (λ t. holds p (get_or faces t [])) (λ t. hits p t (get_or faces t [])) (length faces) 0 (length faces) (λ t e. one_hit (λ t. true) p t e (get_or faces t []) refl)
    ∙ least_place (holds p) faces
