-- The number of a node is one more than the count of nodes before it.
use Rattle.std.proofs.Common.{◌≡◌, ◌≢◌, ◌+◌, ◌≤◌, ◌<◌, ℕ, ℤ, pos, Bool, true, false, cond, ◌||◌, ◌&&◌, List, [], ◌∷◌, refl, ap, arith, length}
use Rattle.std.proofs.lemmas.Int.{ints}
use Rattle.std.specs.Cmp.{signed_Decides}
use Rattle.std.specs.Ordering.{int_eq}
use Rattle.std.specs.Cmp.Lexicographic.{pointwise}
use Rattle.std.specs.List.{position_or_len, list_any}
use Rattle.gen_cs.specs.CubedSphere.{coordinate, is_end, if_node, node_at, nodes_of, number_of, row_of, slice_of}
use Rattle.gen_cs.specs.Before.{before_slice, before_row, before_place}
use Rattle.gen_cs.proofs.Rows.{row_before, slice_before, slices_before}
use Rattle.gen_cs.proofs.Searches.{or_false, misses_flat, position_flat, within_flat}

-- a test that decides a fact is false where the fact doesn't hold
no_test : (b : Bool) (P : Type 0) → (b ≡ true → P) → (P → ⊥) → b ≡ false
no_test true P then never = absurd (never (then refl))
no_test false P then never = refl

-- coordinates at different places differ
pub other_coordinate : (n i j : ℕ) → i ≢ j → int_eq (coordinate n i) (coordinate n j) ≡ false
other_coordinate n i j differ =
    no_test (int_eq (coordinate n i) (coordinate n j)) (coordinate n i ≡ coordinate n j) (signed_Decides (coordinate n i) (coordinate n j)).0 (λ h. differ (omega (arith, ints, h)))

pub same_coordinate : (n i : ℕ) → int_eq (coordinate n i) (coordinate n i) ≡ true
same_coordinate n i = (signed_Decides (coordinate n i) (coordinate n i)).1 refl

and_is : (x y z : Bool) → x ≡ true → y ≡ true → z ≡ true → (x && (y && (z && true))) ≡ true
and_is x y z h g k = rw (h, g, k) refl

and_first : (x y z : Bool) → x ≡ false → (x && (y && (z && true))) ≡ false
and_first x y z h = rw h refl

and_second : (x y z : Bool) → y ≡ false → (x && (y && (z && true))) ≡ false
and_second true y z h = rw h refl
and_second false y z h = refl

and_third : (x y z : Bool) → z ≡ false → (x && (y && (z && true))) ≡ false
and_third true true z h = rw h refl
and_third true false z h = refl
and_third false y z h = refl

-- the test of a search for the node at these places
abbrev is_node : ℕ → ℕ → ℕ → ℕ → List ℤ → Bool
is_node n a b c m = pointwise int_eq m (node_at n a b c)

-- it passes at the node itself
is_node_itself : (n a b c : ℕ) → is_node n a b c (node_at n a b c) ≡ true
is_node_itself n a b c = and_is _ _ _ (same_coordinate n a) (same_coordinate n b) (same_coordinate n c)

-- where a test fails at a node, it passes nowhere among at most that node
misses_node : (p : List ℤ → Bool) (t : Bool) (x : List ℤ) → p x ≡ false → list_any p (cond t (x ∷ []) []) ≡ false
misses_node p true x h = or_false (p x) false h refl
misses_node p false x h = refl

misses_place : (n a b c k : ℕ) → k ≢ c → list_any (is_node n a b c) (if_node n a b k) ≡ false
misses_place n a b c k differ = misses_node (is_node n a b c) _ (node_at n a b k) (and_third _ _ _ (other_coordinate n k c differ))

misses_row : (n a b c j : ℕ) → j ≢ b → list_any (is_node n a b c) (row_of n a j) ≡ false
misses_row n a b c j differ =
    misses_flat (is_node n a b c) (if_node n a j) 0 (n + 1) (λ k low high. misses_node (is_node n a b c) _ (node_at n a j k) (and_second _ _ _ (other_coordinate n j b differ)))

misses_slice : (n a b c i : ℕ) → i ≢ a → list_any (is_node n a b c) (slice_of n i) ≡ false
misses_slice n a b c i differ =
    misses_flat (is_node n a b c) (row_of n i) 0 (n + 1) (λ j low high.
    misses_flat (is_node n a b c) (if_node n i j) 0 (n + 1) (λ k low high. misses_node (is_node n a b c) _ (node_at n i j k) (and_first _ _ _ (other_coordinate n i a differ))))

-- a node is found at once among itself
found_node : (p : List ℤ → Bool) (t : Bool) (x : List ℤ) → t ≡ true → p x ≡ true → position_or_len p (cond t (x ∷ []) []) ≡ 0
found_node p t x is passes = rw is (rw passes refl)

one_node : (t : Bool) (x : List ℤ) → t ≡ true → length (cond t (x ∷ []) []) ≡ 1
one_node t x is = rw is refl

module _ (n a b c : ℕ) (least : 1 ≤ n) (a_le : a ≤ n) (b_le : b ≤ n) (c_le : c ≤ n) (node : (is_end n a || is_end n b || is_end n c) ≡ true) where
  here : position_or_len (is_node n a b c) (if_node n a b c) ≡ 0
  here = found_node (is_node n a b c) _ (node_at n a b c) node (is_node_itself n a b c)

  hit_place : position_or_len (is_node n a b c) (if_node n a b c) < length (if_node n a b c)
  hit_place = omega (arith, here, one_node _ (node_at n a b c) node)

  in_row : position_or_len (is_node n a b c) (row_of n a b) ≡ before_place n a b c
  in_row =
      omega (
        arith,
        position_flat (is_node n a b c) (if_node n a b) 0 (n + 1) c c (omega arith) (omega (arith, c_le)) (λ k low high. misses_place n a b c k (λ e. absurd (omega (arith, e, high)))) hit_place,
        here,
        row_before n a b c c_le,
      )

  hit_row : position_or_len (is_node n a b c) (row_of n a b) < length (row_of n a b)
  hit_row = within_flat (is_node n a b c) (if_node n a b) 0 (n + 1) c c (omega arith) (omega (arith, c_le)) (λ k low high. misses_place n a b c k (λ e. absurd (omega (arith, e, high)))) hit_place

  in_slice : position_or_len (is_node n a b c) (slice_of n a) ≡ before_row n a b + before_place n a b c
  in_slice =
      omega (
        arith,
        position_flat (is_node n a b c) (row_of n a) 0 (n + 1) b b (omega arith) (omega (arith, b_le)) (λ j low high. misses_row n a b c j (λ e. absurd (omega (arith, e, high)))) hit_row,
        in_row,
        slice_before n a b least b_le,
      )

  hit_slice : position_or_len (is_node n a b c) (slice_of n a) < length (slice_of n a)
  hit_slice = within_flat (is_node n a b c) (row_of n a) 0 (n + 1) b b (omega arith) (omega (arith, b_le)) (λ j low high. misses_row n a b c j (λ e. absurd (omega (arith, e, high)))) hit_row

  in_nodes : position_or_len (is_node n a b c) (nodes_of n) ≡ before_slice n a + (before_row n a b + before_place n a b c)
  unfolding nodes_of
  in_nodes =
      omega (
        arith,
        position_flat (is_node n a b c) (slice_of n) 0 (n + 1) a a (omega arith) (omega (arith, a_le)) (λ i low high. misses_slice n a b c i (λ e. absurd (omega (arith, e, high)))) hit_slice,
        in_slice,
        slices_before n a least a_le,
      )

  pub number_is : number_of (nodes_of n) (node_at n a b c) ≡ pos (before_slice n a + before_row n a b + before_place n a b c + 1)
  number_is = ap (λ (k : ℕ). pos k) (omega (arith, in_nodes))

  pub found_within : position_or_len (is_node n a b c) (nodes_of n) < length (nodes_of n)
  unfolding nodes_of
  found_within = within_flat (is_node n a b c) (slice_of n) 0 (n + 1) a a (omega arith) (omega (arith, a_le)) (λ i low high. misses_slice n a b c i (λ e. absurd (omega (arith, e, high)))) hit_slice
