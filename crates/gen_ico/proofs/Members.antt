-- The points are small, they are among the nodes, and so the numbers of the faces are numbers of nodes.
use Rattle.std.proofs.Common.{◌≡◌, ◌∙◌, ◌+◌, ◌-◌, ◌*◌, ◌≤◌, ◌<◌, ℕ, zero, suc, ℤ, pos, ◌+ℤ◌, ◌*ℤ◌, unsigned_abs, Bool, true, false, cond, List, [], ◌∷◌, length, map, get_or, inl, inr, ◌⊎◌, refl, sym, subst, arith, All}
use Rattle.std.specs.Prelude.{nat_le}
use Rattle.std.specs.List.{AllByRecursion, Contains, flat_map, position_or_len, range_with_len}
use Rattle.std.specs.Ordering.{int_eq}
use Rattle.std.specs.Cmp.Lexicographic.{pointwise}
use Rattle.std.specs.Cmp.Rules.{signed_items}
use Rattle.std.proofs.lemmas.Int.{ints}
use Rattle.std.proofs.lemmas.Bool.Decides.{nat_tests}
use Rattle.std.proofs.lemmas.List.Elements.{All-contains, All-from_recursion, Contains-append_left, Contains-append_right, All-append}
use Rattle.std.proofs.lemmas.List.FromFn.{get_or-map-range_with_len, get_or-range_with_len, length-map-range_with_len, length-range_with_len}
use Rattle.std.proofs.lemmas.List.Sums.{fails_before_first}
use Rattle.vec_exact.proofs.Bounds.{product_at_most}
use Rattle.gen_ico.specs.Icosahedron.{base_triangles}
use Rattle.gen_ico.specs.Icosahedral.{corner_component, faces_at, faces_of, inverted, number_at, number_of, point, point_component, points_of, row_faces, row_points, triangle_faces, triangle_points, upright, AreNodes}
use Rattle.gen_ico.specs.Holding.{IsNumberTo, IsSmallNode, IsTriangle}
use Rattle.gen_ico.proofs.Rounded.{rounded_at_most}
use Rattle.gen_ico.proofs.Takes.{get_or_again}
use Rattle.gen_ico.proofs.Table.{small_component}

-- ---- lists of pieces

contains_flat : {A B : Type 0} (f : A → List B) (xs : List A) (k : ℕ) (x : A) (y : B) → k < length xs → get_or xs k x ≡ x → Contains (f x) y → Contains (flat_map f xs) y
contains_flat f [] k x y lt is c = absurd (omega (arith, lt))
contains_flat f (z ∷ zs) zero x y lt is c = Contains-append_left (f z) (flat_map f zs) y (subst (λ w. Contains (f w) y) (sym is) c)
contains_flat f (z ∷ zs) (suc k) x y lt is c = Contains-append_right (f z) (flat_map f zs) y (contains_flat f zs k x y (omega (arith, lt)) is c)

contains_range : {B : Type 0} (f : ℕ → List B) (n i : ℕ) (y : B) → i < n → Contains (f i) y → Contains (flat_map f (range_with_len 0 n)) y
contains_range f n i y lt c =
    contains_flat f (range_with_len 0 n) i i y (subst (λ m. i < m) (sym (length-range_with_len 0 n)) lt) (get_or-range_with_len 0 n i i lt ∙ omega arith) c

all_flat : {A B : Type 0} (P : B → Type 0) (f : A → List B) (xs : List A) → ((x : A) → All P (f x)) → All P (flat_map f xs)
all_flat P f [] h = λ k d lt. absurd (omega (arith, lt))
all_flat P f (x ∷ xs) h = All-append P (f x) (flat_map f xs) (h x) (all_flat P f xs h)

all_members : {A B : Type 0} (P : B → Type 0) (f : A → List B) (xs : List A) → ((x : A) → Contains xs x → All P (f x)) → All P (flat_map f xs)
all_members P f [] h = λ k d lt. absurd (omega (arith, lt))
all_members P f (x ∷ xs) h = All-append P (f x) (flat_map f xs) (h x (0, omega arith, refl)) (all_members P f xs (λ y c. h y (suc c.0, omega (arith, c.1), c.2)))

all_range : {B : Type 0} (P : B → Type 0) (f : ℕ → List B) (a k : ℕ) → ((i : ℕ) → i < a + k → All P (f i)) → All P (flat_map f (range_with_len a k))
all_range P f a zero h = λ k d lt. absurd (omega (arith, lt))
all_range P f a (suc k) h = All-append P (f a) (flat_map f (range_with_len (a + 1) k)) (h a (omega arith)) (all_range P f (a + 1) k (λ i lt. h i (omega (arith, lt))))

all_map : {B : Type 0} (P : B → Type 0) (f : ℕ → B) (a k : ℕ) → ((i : ℕ) → i < a + k → P (f i)) → AllByRecursion P (map f (range_with_len a k))
all_map P f a zero h = tt
all_map P f a (suc k) h = (h a (omega arith), all_map P f (a + 1) k (λ i lt. h i (omega (arith, lt))))

-- ---- points

pub is_point : (n : ℕ) (triangle : List ℕ) (i j : ℕ) → Contains base_triangles triangle → i + j ≤ n → Contains (points_of n) (point n triangle i j)
unfolding points_of
is_point n triangle i j base le =
    let lt : j < n + 1 - i = omega (arith, le) in
    let here : Contains (row_points n triangle i) (point n triangle i j) = (j, subst (λ m. j < m) (sym (length-map-range_with_len (point n triangle i) 0 (n + 1 - i))) lt, get_or-map-range_with_len (point n triangle i) 0 (n + 1 - i) j j (point n triangle i j) lt (omega arith)) in
    contains_flat (triangle_points n) base_triangles base.0 triangle (point n triangle i j) base.1 base.2 (contains_range (row_points n triangle) (n + 1) i (point n triangle i j) (omega (arith, le)) here)

weighted_small : (a b c : ℤ) (p q r n : ℕ) → p + q + r ≤ n → unsigned_abs a ≤ 131072 → unsigned_abs b ≤ 131072 → unsigned_abs c ≤ 131072 → unsigned_abs (a *ℤ pos p +ℤ b *ℤ pos q +ℤ c *ℤ pos r) ≤ 131072 * n
weighted_small a b c p q r n all x y z =
    let first : unsigned_abs (a *ℤ pos p) ≤ 131072 * p = product_at_most a (pos p) 131072 p x (omega (arith, ints)) in
    let second : unsigned_abs (b *ℤ pos q) ≤ 131072 * q = product_at_most b (pos q) 131072 q y (omega (arith, ints)) in
    let third : unsigned_abs (c *ℤ pos r) ≤ 131072 * r = product_at_most c (pos r) 131072 r z (omega (arith, ints)) in
    sum_small (a *ℤ pos p) (b *ℤ pos q) (c *ℤ pos r) p q r n all first second third
  where
    sum_small : (x y z : ℤ) (p q r n : ℕ) → p + q + r ≤ n → unsigned_abs x ≤ 131072 * p → unsigned_abs y ≤ 131072 * q → unsigned_abs z ≤ 131072 * r → unsigned_abs (x +ℤ y +ℤ z) ≤ 131072 * n
    sum_small x y z p q r n all xs ys zs = omega (arith, ints, all, xs, ys, zs)

small_part : (n : ℕ) (triangle : List ℕ) (i j k : ℕ) → 1 ≤ n → i + j ≤ n → unsigned_abs (point_component n triangle i j k) ≤ 131072
small_part n triangle i j k least le =
    rounded_at_most (corner_component triangle 0 k *ℤ pos (n - i - j) +ℤ corner_component triangle 1 k *ℤ pos i +ℤ corner_component triangle 2 k *ℤ pos j) n 131072 (omega (arith, least))
    (weighted_small (corner_component triangle 0 k) (corner_component triangle 1 k) (corner_component triangle 2 k) (n - i - j) i j n (omega (arith, le)) (small_component triangle 0 k) (small_component triangle 1 k) (small_component triangle 2 k))

small_point : (n : ℕ) (triangle : List ℕ) (i j : ℕ) → 1 ≤ n → i + j ≤ n → IsSmallNode (point n triangle i j)
unfolding point
small_point n triangle i j least le =
    All-from_recursion (λ x. unsigned_abs x ≤ 131072) (point n triangle i j) (small_part n triangle i j 0 least le, (small_part n triangle i j 1 least le, (small_part n triangle i j 2 least le, tt)))

small_points : (n : ℕ) → 1 ≤ n → All IsSmallNode (points_of n)
unfolding points_of
small_points n least =
    all_flat IsSmallNode (triangle_points n) base_triangles (λ triangle. all_range IsSmallNode (row_points n triangle) 0 (n + 1) (λ i row. All-from_recursion IsSmallNode (row_points n triangle i) (all_map IsSmallNode (point n triangle i) 0 (n + 1 - i) (λ j lt. small_point n triangle i j least (omega (arith, row, lt))))))

-- ---- nodes

pub small_nodes : (n : ℕ) (nodes : List (List ℤ)) → 1 ≤ n → AreNodes n nodes → All IsSmallNode nodes
small_nodes n nodes least are = λ k d lt. All-contains IsSmallNode (points_of n) (get_or nodes k d) (small_points n least) ((are.points (get_or nodes k d)).0 (k, lt, get_or_again nodes k d lt))

-- a triple that stands at place k is found there or before
found_before : (nodes : List (List ℤ)) (p : List ℤ) (k : ℕ) → get_or nodes k p ≡ p → position_or_len (λ m. pointwise int_eq m p) nodes ≤ k
found_before nodes p k is = by_case (le_or_above (position_or_len test nodes) k)
  where
    test : List ℤ → Bool
    test m = pointwise int_eq m p

    le_or_above : (a b : ℕ) → (a ≤ b) ⊎ (b < a)
    le_or_above a b = grind arith

    passes : pointwise int_eq (get_or nodes k p) p ≡ true
    passes = (signed_items (get_or nodes k p) p).1 is

    by_case : (position_or_len (λ m. pointwise int_eq m p) nodes ≤ k) ⊎ (k < position_or_len (λ m. pointwise int_eq m p) nodes) → position_or_len (λ m. pointwise int_eq m p) nodes ≤ k
    by_case (inl le) = le
    by_case (inr above) =
        let fails : pointwise int_eq (get_or nodes k p) p ≡ false = fails_before_first (λ m. pointwise int_eq m p) nodes k p above in
        absurd (cc (passes, fails))

is_number : (n : ℕ) (nodes : List (List ℤ)) (p : List ℤ) → AreNodes n nodes → Contains (points_of n) p → IsNumberTo (length nodes) (number_of nodes p)
is_number n nodes p are c =
    let there : Contains nodes p = (are.points p).1 c in
    let le : position_or_len (λ m. pointwise int_eq m p) nodes ≤ there.0 = found_before nodes p there.0 there.2 in
    (omega (arith, ints), omega (arith, ints, le, there.1))

pub some_node : (n : ℕ) (nodes : List (List ℤ)) → AreNodes n nodes → 1 ≤ length nodes
some_node n nodes are =
    let there : Contains nodes (point n (1 ∷ 3 ∷ 2 ∷ []) 0 0) = (are.points (point n (1 ∷ 3 ∷ 2 ∷ []) 0 0)).1 (is_point n (1 ∷ 3 ∷ 2 ∷ []) 0 0 (0, omega arith, refl) (omega arith)) in
    omega (arith, there.1)

-- ---- faces

is_triangle : (count : ℕ) (a b c : ℤ) → IsNumberTo count a → IsNumberTo count b → IsNumberTo count c → IsTriangle count (a ∷ b ∷ c ∷ [])
is_triangle count a b c x y z = record { corners = refl; numbers = All-from_recursion (IsNumberTo count) (a ∷ b ∷ c ∷ []) (x, (y, (z, tt))) }

at_place : (n : ℕ) (nodes : List (List ℤ)) (triangle : List ℕ) (i j : ℕ) → AreNodes n nodes → Contains base_triangles triangle → i + j < n → All (IsTriangle (length nodes)) (faces_at nodes n triangle i j)
unfolding faces_at
at_place n nodes triangle i j are base lt = All-from_recursion (IsTriangle (length nodes)) (faces_at nodes n triangle i j) (first, second (nat_le (i + j + 2) n) refl)
  where
    number : (i j : ℕ) → i + j ≤ n → IsNumberTo (length nodes) (number_at nodes n triangle i j)
    number i j le = is_number n nodes (point n triangle i j) are (is_point n triangle i j base le)

    first : IsTriangle (length nodes) (upright nodes n triangle i j)
    first = is_triangle (length nodes) (number_at nodes n triangle i j) (number_at nodes n triangle (i + 1) j) (number_at nodes n triangle i (j + 1)) (number i j (omega (arith, lt))) (number (i + 1) j (omega (arith, lt))) (number i (j + 1) (omega (arith, lt)))

    second : (b : Bool) → nat_le (i + j + 2) n ≡ b → AllByRecursion (IsTriangle (length nodes)) (cond b (inverted nodes n triangle i j ∷ []) [])
    second true is =
        let le : i + j + 2 ≤ n = grind (arith, nat_tests, is) in
        (is_triangle (length nodes) (number_at nodes n triangle (i + 1) j) (number_at nodes n triangle (i + 1) (j + 1)) (number_at nodes n triangle i (j + 1)) (number (i + 1) j (omega (arith, lt))) (number (i + 1) (j + 1) (omega (arith, le))) (number i (j + 1) (omega (arith, lt))), tt)
    second false is = tt

pub triangles : (n : ℕ) (nodes : List (List ℤ)) → AreNodes n nodes → All (IsTriangle (length nodes)) (faces_of nodes n)
unfolding faces_of
triangles n nodes are =
    all_members (IsTriangle (length nodes)) (triangle_faces nodes n) base_triangles
    (λ triangle base. all_range (IsTriangle (length nodes)) (row_faces nodes n triangle) 0 n (λ i row. all_range (IsTriangle (length nodes)) (faces_at nodes n triangle i) 0 (n - i) (λ j lt. at_place n nodes triangle i j are base (omega (arith, row, lt)))))
