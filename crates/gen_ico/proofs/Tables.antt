-- Lists of the faces that hold each node, as they grow.
use Rattle.std.proofs.Common.{◌≡◌, ◌≢◌, ◌∙◌, ◌+◌, ◌-◌, ◌≤◌, ◌<◌, ℕ, zero, suc, ℤ, pos, unsigned_abs, Bool, true, false, cond, List, [], ◌∷◌, ◌++◌, append-nil, All, length, get_or, inl, inr, ◌⊎◌, refl, sym, ap, subst, arith, set, replicate}
use Rattle.std.specs.List.{AllByRecursion, flat_map, range_with_len}
use Rattle.std.proofs.lemmas.List.Elements.{All-from_recursion}
use Rattle.std.specs.Ordering.{int_eq}
use Rattle.std.specs.Cmp.{signed_Decides}
use Rattle.std.proofs.lemmas.Int.{ints}
use Rattle.std.proofs.lemmas.List.{get_or-replicate, length-replicate, get_or-set_other}
use Rattle.std.proofs.lemmas.Grind.{get_or-set_at}
use Rattle.gen_ico.specs.Holding.{hit, hits, holding_below, IsNumberTo, IsTableBelow, IsTriangle}
use Rattle.vec_exact.proofs.Ranges.{flat_range_more}

not_same : (x y : ℤ) (b : Bool) → int_eq x y ≡ b → x ≢ y → int_eq x y ≡ false
not_same x y true is differ = absurd (differ ((signed_Decides x y).0 is))
not_same x y false is differ = is

-- one list with one number more
pub hit_list : (lists : List (List ℕ)) (number : ℤ) (t q : ℕ) → IsNumberTo (length lists) number → q < length lists
    → get_or (set lists (unsigned_abs number - 1) (get_or lists (unsigned_abs number - 1) [] ++ t ∷ [])) q [] ≡ get_or lists q [] ++ hit (pos (q + 1)) t number
hit_list lists number t q is lt = by_case (same_or_not q (unsigned_abs number - 1))
  where
    same_or_not : (a b : ℕ) → (a ≡ b) ⊎ (a ≢ b)
    same_or_not a b = grind arith

    place : ℕ
    place = unsigned_abs number - 1

    by_case : (q ≡ unsigned_abs number - 1) ⊎ (q ≢ unsigned_abs number - 1) → get_or (set lists (unsigned_abs number - 1) (get_or lists (unsigned_abs number - 1) [] ++ t ∷ [])) q [] ≡ get_or lists q [] ++ hit (pos (q + 1)) t number
    by_case (inl e) =
        let same : number ≡ pos (q + 1) = omega (arith, ints, is.0, e) in
        let hits_it : int_eq number (pos (q + 1)) ≡ true = (signed_Decides number (pos (q + 1))).1 same in
        get_or-set_at lists (unsigned_abs number - 1) q (get_or lists (unsigned_abs number - 1) [] ++ t ∷ []) [] e (subst (λ k. k < length lists) e lt)
        ∙ ap (λ k. get_or lists k [] ++ t ∷ []) (sym e)
        ∙ ap (λ (b : Bool). get_or lists q [] ++ cond b (t ∷ []) []) (sym hits_it)
    by_case (inr differ) =
        let other : number ≢ pos (q + 1) = λ same. differ (omega (arith, ints, is.0, same)) in
        let misses : int_eq number (pos (q + 1)) ≡ false = not_same number (pos (q + 1)) (int_eq number (pos (q + 1))) refl other in
        get_or-set_other lists (unsigned_abs number - 1) q (get_or lists (unsigned_abs number - 1) [] ++ t ∷ []) [] differ
        ∙ sym (append-nil (get_or lists q []))
        ∙ ap (λ (b : Bool). get_or lists q [] ++ cond b (t ∷ []) []) (sym misses)

pub none_below : (faces : List (List ℤ)) (p : ℤ) → holding_below faces p 0 ≡ []
unfolding holding_below
none_below faces p = refl

pub one_more : (faces : List (List ℤ)) (p : ℤ) (k : ℕ) → holding_below faces p (k + 1) ≡ holding_below faces p k ++ hits p k (get_or faces k [])
unfolding holding_below
one_more faces p k = flat_range_more (λ t. hits p t (get_or faces t [])) k

-- face t was put into the lists of these numbers
pub record Grows (t : ℕ) (numbers : List ℤ) (old lists : List (List ℕ)) : Type 0 where
  pub count : length lists ≡ length old
  pub each : (q : ℕ) → q < length old → get_or lists q [] ≡ get_or old q [] ++ hits (pos (q + 1)) t numbers

below_append : (m : ℕ) (xs ys : List ℕ) → AllByRecursion (λ t. t < m) xs → AllByRecursion (λ t. t < m) ys → AllByRecursion (λ t. t < m) (xs ++ ys)
below_append m [] ys a b = b
below_append m (x ∷ xs) ys a b = (a.0, below_append m xs ys a.1 b)

hits_below : (m : ℕ) (p : ℤ) (t : ℕ) (face : List ℤ) → t < m → AllByRecursion (λ t. t < m) (hits p t face)
hits_below m p t [] lt = tt
hits_below m p t (x ∷ xs) lt = below_append m (hit p t x) (hits p t xs) (one (int_eq x p)) (hits_below m p t xs lt)
  where
    one : (b : Bool) → AllByRecursion (λ t. t < m) (cond b (t ∷ []) [])
    one true = (lt, tt)
    one false = tt

pieces_below : (m : ℕ) (f : ℕ → List ℕ) (a k : ℕ) → a + k ≤ m → ((t : ℕ) → t < m → AllByRecursion (λ t. t < m) (f t)) → AllByRecursion (λ t. t < m) (flat_map f (range_with_len a k))
pieces_below m f a zero le h = tt
pieces_below m f a (suc k) le h = below_append m (f a) (flat_map f (range_with_len (a + 1) k)) (h a (omega (arith, le))) (pieces_below m f (a + 1) k (omega (arith, le)) h)

-- the faces that hold a node are faces
pub in_range : (faces : List (List ℤ)) (holders : List ℕ) (p : ℤ) → holders ≡ holding_below faces p (length faces) → All (λ t. t < length faces) holders
unfolding holding_below
in_range faces holders p e =
    subst (All (λ t. t < length faces)) (sym e)
    (All-from_recursion (λ t. t < length faces) (holding_below faces p (length faces)) (pieces_below (length faces) (λ t. hits p t (get_or faces t [])) 0 (length faces) (omega arith) (λ t lt. hits_below (length faces) p t (get_or faces t []) lt)))

pub empty_table : (faces : List (List ℤ)) (lists : List (List ℕ)) (count : ℕ) → lists ≡ replicate count [] → (length lists ≡ count) × IsTableBelow faces 0 lists
empty_table faces lists count e =
    let long : length lists ≡ count = ap length e ∙ length-replicate count [] in
    (long, λ q lt. ap (λ (l : List (List ℕ)). get_or l q []) e ∙ get_or-replicate count q [] [] (omega (arith, lt, long)) ∙ sym (none_below faces (pos (q + 1))))

pub next_table : (faces : List (List ℤ)) (lists grown : List (List ℕ)) (t count : ℕ) → (length lists ≡ count) × IsTableBelow faces t lists → length grown ≡ length lists
    → ((q : ℕ) → q < length lists → get_or grown q [] ≡ get_or lists q [] ++ hits (pos (q + 1)) t (get_or faces t [])) → (length grown ≡ count) × IsTableBelow faces (t + 1) grown
next_table faces lists grown t count before same each =
    (same ∙ before.0, λ q lt. each q (omega (arith, same, lt)) ∙ ap (λ (l : List ℕ). l ++ hits (pos (q + 1)) t (get_or faces t [])) (before.1 q (omega (arith, same, lt))) ∙ sym (one_more faces (pos (q + 1)) t))

-- the numbers of a triangle are numbers of nodes, however their count is written
pub numbers_to : (count m : ℕ) (faces : List (List ℤ)) (t : ℕ) (face : List ℤ) → All (IsTriangle count) faces → t < length faces → m ≡ count → face ≡ get_or faces t [] → All (IsNumberTo m) face
numbers_to count m faces t face all lt same is = subst (λ (k : ℕ). All (IsNumberTo k) face) (sym same) (subst (All (IsNumberTo count)) (sym is) (all t [] lt).numbers)
