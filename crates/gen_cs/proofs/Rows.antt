-- How long the rows and slices of nodes are.
use Rattle.std.proofs.Common.{◌≡◌, ◌+◌, ◌-◌, ◌*◌, ◌≤◌, ◌<◌, ℕ, ℤ, zero, suc, Bool, true, false, cond, ◌||◌, ◌==◌, List, [], ◌∷◌, ◌++◌, refl, ap, ◌∙◌, arith, length}
use Rattle.std.proofs.lemmas.Bool.Decides.{nat_tests}
use Rattle.std.specs.List.{flat_map, range_with_len}
use Rattle.gen_cs.specs.CubedSphere.{is_end, if_node, node_at, row_of, slice_of, nodes_of}
use Rattle.gen_cs.specs.Before.{before_slice, before_row, before_place}
use Rattle.vec_exact.proofs.Ranges.{length_even, length_behind_first, flat_range_more, flat_first, length_more}

or_is : (x y z : Bool) → (x || y) ≡ true → (x || y || z) ≡ true
or_is true y z h = refl
or_is false true z h = refl
or_is false false z h = cc

or_third : (x y z : Bool) → (x || y) ≡ false → (x || y || z) ≡ z
or_third true y z h = cc
or_third false true z h = cc
or_third false false z h = refl

one : (t : Bool) (x : List ℤ) → t ≡ true → length (cond t (x ∷ []) []) ≡ 1
one t x is = rw is refl

none : (t : Bool) (x : List ℤ) → t ≡ false → cond t (x ∷ []) [] ≡ []
none t x is = rw is refl

or_right_true : (x y : Bool) → y ≡ true → (x || y) ≡ true
or_right_true true y h = refl
or_right_true false y h = h

or_left_true : (x y : Bool) → x ≡ true → (x || y) ≡ true
or_left_true true y h = refl
or_left_true false y h = cc

or_both_false : (x y : Bool) → x ≡ false → y ≡ false → (x || y) ≡ false
or_both_false true y h g = cc
or_both_false false y h g = g

-- a place that is no end
pub is_inner : (n i : ℕ) → 1 ≤ i → i < n → is_end n i ≡ false
is_inner n i low high = or_both_false (i == 0) (i == n) (grind (arith, nat_tests)) (grind (arith, nat_tests))

pub last_is_end : (n : ℕ) → is_end n n ≡ true
last_is_end n = or_right_true (n == 0) (n == n) (grind (arith, nat_tests))

-- at the surface of the cube each triple of a row is a node
full_piece : (n a b c : ℕ) → (is_end n a || is_end n b) ≡ true → length (if_node n a b c) ≡ 1
full_piece n a b c surface = one _ (node_at n a b c) (or_is (is_end n a) (is_end n b) (is_end n c) surface)

-- inside it the two ends are
end_piece : (n a b c : ℕ) → (is_end n a || is_end n b) ≡ false → is_end n c ≡ true → length (if_node n a b c) ≡ 1
end_piece n a b c inside end = one _ (node_at n a b c) (or_third (is_end n a) (is_end n b) (is_end n c) inside ∙ end)

inner_piece : (n a b c : ℕ) → (is_end n a || is_end n b) ≡ false → is_end n c ≡ false → if_node n a b c ≡ []
inner_piece n a b c inside inner = none _ (node_at n a b c) (or_third (is_end n a) (is_end n b) (is_end n c) inside ∙ inner)

-- a count that is none at the first place
at_first : (k x y : ℕ) → (k ≡ 0 → x ≡ 0) → (1 ≤ k → x ≡ y) → x ≡ cond (k == 0) 0 y
at_first zero x y first later = first refl
at_first (suc k) x y first later = later (omega arith) ∙ grind (arith, nat_tests)

-- either of two counts
either_count : (s : Bool) (x y z : ℕ) → (s ≡ true → x ≡ y) → (s ≡ false → x ≡ z) → x ≡ cond s y z
either_count true x y z then else = then refl
either_count false x y z then else = else refl

-- how many nodes of a row stand before place c
pub row_before : (n a b c : ℕ) → c ≤ n → length (flat_map (if_node n a b) (range_with_len 0 c)) ≡ before_place n a b c
row_before n a b c c_le =
    either_count (is_end n a || is_end n b) _ c _
    (λ surface. length_even (if_node n a b) 1 0 c (λ i low high. full_piece n a b i surface) ∙ omega arith)
    (λ inside. at_first c _ 1 (λ e. ap (λ k. length (flat_map (if_node n a b) (range_with_len 0 k))) e)
    (λ least. length_behind_first (if_node n a b) 1 0 c least (end_piece n a b 0 inside refl) (λ i low high. ap length (inner_piece n a b i inside (is_inner n i low (omega (arith, high, c_le))))) ∙ omega arith))

pub length_row_surface : (n a b : ℕ) → (is_end n a || is_end n b) ≡ true → length (row_of n a b) ≡ n + 1
length_row_surface n a b surface = length_even (if_node n a b) 1 0 (n + 1) (λ i low high. full_piece n a b i surface) ∙ omega arith

pub length_row_inside : (n a b : ℕ) → 1 ≤ n → (is_end n a || is_end n b) ≡ false → length (row_of n a b) ≡ 2
length_row_inside n a b least inside =
    omega (
      arith,
      length_more (if_node n a b) n,
      end_piece n a b n inside (last_is_end n),
      length_behind_first (if_node n a b) 1 0 n least (end_piece n a b 0 inside refl) (λ i low high. ap length (inner_piece n a b i inside (is_inner n i low high))),
    )

-- a row through the cube has its two ends
pub row_is_ends : (n a b : ℕ) → 1 ≤ n → (is_end n a || is_end n b) ≡ false → row_of n a b ≡ if_node n a b 0 ++ if_node n a b n
row_is_ends n a b least inside =
    flat_range_more (if_node n a b) n ∙ ap (λ l. l ++ if_node n a b n) (flat_first (if_node n a b) n least (λ i low high. inner_piece n a b i inside (is_inner n i low high)))

-- how many nodes of a slice stand before row b
pub slice_before : (n a b : ℕ) → 1 ≤ n → b ≤ n → length (flat_map (row_of n a) (range_with_len 0 b)) ≡ before_row n a b
slice_before n a b least b_le =
    either_count (is_end n a) _ (b * (n + 1)) _
    (λ end. length_even (row_of n a) (n + 1) 0 b (λ i low high. length_row_surface n a i (or_left_true (is_end n a) (is_end n i) end)))
    (λ inner. at_first b _ (n + 1 + (b - 1) * 2) (λ e. ap (λ k. length (flat_map (row_of n a) (range_with_len 0 k))) e)
    (λ low. length_behind_first (row_of n a) (n + 1) 2 b low (length_row_surface n a 0 (or_right_true (is_end n a) true refl))
    (λ i i_low high. length_row_inside n a i least (or_both_false (is_end n a) (is_end n i) inner (is_inner n i i_low (omega (arith, high, b_le)))))))

pub length_slice_surface : (n a : ℕ) → is_end n a ≡ true → length (slice_of n a) ≡ (n + 1) * (n + 1)
length_slice_surface n a end = length_even (row_of n a) (n + 1) 0 (n + 1) (λ i low high. length_row_surface n a i (or_left_true (is_end n a) (is_end n i) end))

pub length_slice_inside : (n a : ℕ) → 1 ≤ n → is_end n a ≡ false → length (slice_of n a) ≡ 4 * n
length_slice_inside n a least inner =
    omega (
      arith,
      least,
      length_more (row_of n a) n,
      length_row_surface n a n (or_right_true (is_end n a) (is_end n n) (last_is_end n)),
      length_behind_first (row_of n a) (n + 1) 2 n least (length_row_surface n a 0 (or_right_true (is_end n a) true refl))
          (λ i low high. length_row_inside n a i least (or_both_false (is_end n a) (is_end n i) inner (is_inner n i low high))),
    )

-- how many nodes stand before slice a
pub slices_before : (n a : ℕ) → 1 ≤ n → a ≤ n → length (flat_map (slice_of n) (range_with_len 0 a)) ≡ before_slice n a
slices_before n a least a_le =
    at_first a _ ((n + 1) * (n + 1) + (a - 1) * (4 * n)) (λ e. ap (λ k. length (flat_map (slice_of n) (range_with_len 0 k))) e)
    (λ low. length_behind_first (slice_of n) ((n + 1) * (n + 1)) (4 * n) a low (length_slice_surface n 0 refl)
    (λ i i_low high. length_slice_inside n i least (is_inner n i i_low (omega (arith, high, a_le)))))

-- how many nodes there are
pub count_nodes : (n : ℕ) → 1 ≤ n → length (nodes_of n) ≡ 6 * (n * n) + 2
unfolding nodes_of
count_nodes zero least = absurd (omega (arith, least))
count_nodes (suc m) least =
    let n = suc m in
    let less : n - 1 ≡ m = omega arith in
    omega (
      arith,
      ap (λ (j : ℕ). j * (4 * n)) less,
      length_more (slice_of n) n,
      length_slice_surface n n (last_is_end n),
      length_behind_first (slice_of n) ((n + 1) * (n + 1)) (4 * n) n least (length_slice_surface n 0 refl)
          (λ i low high. length_slice_inside n i least (is_inner n i low high)),
    )
