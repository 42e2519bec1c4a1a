-- The faces of a row of a base triangle are those between its numbers and those of the next row.
use Rattle.std.proofs.Common.{◌≡◌, ◌∙◌, ◌+◌, ◌-◌, ◌≤◌, ◌<◌, ℕ, zero, suc, ℤ, pos, Bool, true, false, cond, List, [], ◌∷◌, ◌++◌, length, get_or, inl, inr, ◌⊎◌, refl, sym, ap, append_assoc, arith}
use Rattle.std.specs.Prelude.{nat_le, nat_lt}
use Rattle.std.specs.List.{flat_map, range_with_len}
use Rattle.std.proofs.lemmas.Bool.Decides.{nat_tests}
use Rattle.std.proofs.lemmas.List.FromFn.{get_or-map-range_with_len, length-map-range_with_len}
use Rattle.vec_exact.proofs.Ranges.{flat_behind}
use Rattle.gen_ico.specs.Icosahedral.{faces_at, number_at, row_faces}
use Rattle.gen_ico.specs.Rows.{faces_between, faces_of_rows, inverted_between, number_in, row_numbers, upright_between}

same_range : {A : Type 0} (f g : ℕ → List A) (a k : ℕ) → ((i : ℕ) → i < a + k → f i ≡ g i) → flat_map f (range_with_len a k) ≡ flat_map g (range_with_len a k)
same_range f g a zero h = refl
same_range f g a (suc k) h =
    ap (λ l. l ++ flat_map f (range_with_len (a + 1) k)) (h a (omega arith)) ∙ ap (λ l. g a ++ l) (same_range f g (a + 1) k (λ i lt. h i (omega (arith, lt))))

pub row_length : (nodes : List (List ℤ)) (n : ℕ) (triangle : List ℕ) (i : ℕ) → length (row_numbers nodes n triangle i) ≡ n + 1 - i
row_length nodes n triangle i = length-map-range_with_len (number_at nodes n triangle i) 0 (n + 1 - i)

in_row : (nodes : List (List ℤ)) (n : ℕ) (triangle : List ℕ) (i j : ℕ) → i + j ≤ n → number_in (row_numbers nodes n triangle i) j ≡ number_at nodes n triangle i j
in_row nodes n triangle i j le = get_or-map-range_with_len (number_at nodes n triangle i) 0 (n + 1 - i) j j (pos 0) (omega (arith, le)) (omega arith)

-- one face, or two, of equal numbers
same_faces : (a b c d w x y z : ℤ) (t u : Bool) → a ≡ w → b ≡ x → c ≡ y → t ≡ u → (u ≡ true → d ≡ z) → ((a ∷ b ∷ c ∷ []) ∷ cond t ((b ∷ d ∷ c ∷ []) ∷ []) []) ≡ ((w ∷ x ∷ y ∷ []) ∷ cond u ((x ∷ z ∷ y ∷ []) ∷ []) [])
same_faces a b c d w x y z true true e f g _ h = let last : d ≡ z = h refl in cc (e, f, g, last)
same_faces a b c d w x y z false false e f g _ h = cc (e, f, g)
same_faces a b c d w x y z true false e f g is h = absurd (cc (is))
same_faces a b c d w x y z false true e f g is h = absurd (cc (is))

same_test : (i j n m : ℕ) → m ≡ n + 1 - (i + 1) → nat_lt (j + 1) m ≡ nat_le (i + j + 2) n
same_test i j n m e = by_case (le_or_above (i + j + 2) n)
  where
    le_or_above : (a b : ℕ) → (a ≤ b) ⊎ (b < a)
    le_or_above a b = grind arith

    by_case : (i + j + 2 ≤ n) ⊎ (n < i + j + 2) → nat_lt (j + 1) m ≡ nat_le (i + j + 2) n
    by_case (inl le) =
        let lt : j + 1 < m = omega (arith, e, le) in
        let first : nat_lt (j + 1) m ≡ true = grind (arith, nat_tests, lt) in
        let second : nat_le (i + j + 2) n ≡ true = grind (arith, nat_tests, le) in
        first ∙ sym second
    by_case (inr above) =
        let past : m ≤ j + 1 = omega (arith, e, above) in
        let first : nat_lt (j + 1) m ≡ false = grind (arith, nat_tests, past) in
        let second : nat_le (i + j + 2) n ≡ false = grind (arith, nat_tests, above) in
        first ∙ sym second

between_at : (nodes : List (List ℤ)) (n : ℕ) (triangle : List ℕ) (i j : ℕ) → i + j < n → faces_between (row_numbers nodes n triangle i) (row_numbers nodes n triangle (i + 1)) j ≡ faces_at nodes n triangle i j
unfolding faces_between faces_at
between_at nodes n triangle i j lt =
    let row = row_numbers nodes n triangle i in
    let next = row_numbers nodes n triangle (i + 1) in
    same_faces (number_in row j) (number_in next j) (number_in row (j + 1)) (number_in next (j + 1))
    (number_at nodes n triangle i j) (number_at nodes n triangle (i + 1) j) (number_at nodes n triangle i (j + 1)) (number_at nodes n triangle (i + 1) (j + 1))
    (nat_lt (j + 1) (length next)) (nat_le (i + j + 2) n)
    (in_row nodes n triangle i j (omega (arith, lt)))
    (in_row nodes n triangle (i + 1) j (omega (arith, lt)))
    (in_row nodes n triangle i (j + 1) (omega (arith, lt)))
    (same_test i j n (length next) (row_length nodes n triangle (i + 1)))
    (λ is. in_row nodes n triangle (i + 1) (j + 1) (grind (arith, nat_tests, is)))

pub row_between : (nodes : List (List ℤ)) (n : ℕ) (triangle : List ℕ) (i : ℕ) → i < n → faces_of_rows (row_numbers nodes n triangle i) (row_numbers nodes n triangle (i + 1)) ≡ row_faces nodes n triangle i
row_between nodes n triangle i lt =
    let row = row_numbers nodes n triangle i in
    let next = row_numbers nodes n triangle (i + 1) in
    let places : length next ≡ n - i = row_length nodes n triangle (i + 1) ∙ omega arith in
    ap (λ m. flat_map (faces_between row next) (range_with_len 0 m)) places
    ∙ same_range (faces_between row next) (faces_at nodes n triangle i) 0 (n - i) (λ j less. between_at nodes n triangle i j (omega (arith, lt, less)))

-- one row more behind what was there
pub row_behind : (nodes : List (List ℤ)) (n : ℕ) (triangle : List ℕ) (i : ℕ) (base out put : List (List ℤ)) (row next : List ℤ) → i < n → out ≡ base ++ flat_map (row_faces nodes n triangle) (range_with_len 0 i) → row ≡ row_numbers nodes n triangle i → next ≡ row_numbers nodes n triangle (i + 1)
    → put ≡ out ++ faces_of_rows row next → put ≡ base ++ flat_map (row_faces nodes n triangle) (range_with_len 0 (i + 1))
row_behind nodes n triangle i base out put row next lt so_far here there more =
    more
    ∙ ap (λ (l : List ℤ). out ++ faces_of_rows l next) here
    ∙ ap (λ (l : List ℤ). out ++ faces_of_rows (row_numbers nodes n triangle i) l) there
    ∙ ap (λ l. out ++ l) (row_between nodes n triangle i lt)
    ∙ ap (λ l. l ++ row_faces nodes n triangle i) so_far
    ∙ flat_behind base (row_faces nodes n triangle) i

-- neighbouring rows differ by one in length
pub neighbours : (nodes : List (List ℤ)) (n : ℕ) (triangle : List ℕ) (i : ℕ) (row next : List ℤ) → i < n → row ≡ row_numbers nodes n triangle i → next ≡ row_numbers nodes n triangle (i + 1) → length row ≡ length next + 1
neighbours nodes n triangle i row next lt here there =
    let long : length row ≡ n + 1 - i = ap length here ∙ row_length nodes n triangle i in
    let short : length next ≡ n + 1 - (i + 1) = ap length there ∙ row_length nodes n triangle (i + 1) in
    omega (arith, lt, long, short)

-- two faces put one after the other
pub two_faces : (row next : List ℤ) (j : ℕ) (out middle put : List (List ℤ)) → middle ≡ out ++ upright_between row next j ∷ [] → put ≡ middle ++ inverted_between row next j ∷ [] → j + 1 < length next → put ≡ out ++ faces_between row next j
unfolding faces_between
two_faces row next j out middle put first second lt =
    let both : nat_lt (j + 1) (length next) ≡ true = grind (arith, nat_tests, lt) in
    second
    ∙ ap (λ l. l ++ inverted_between row next j ∷ []) first
    ∙ append_assoc out (upright_between row next j ∷ []) (inverted_between row next j ∷ [])
    ∙ ap (λ t. out ++ upright_between row next j ∷ cond t (inverted_between row next j ∷ []) []) (sym both)
