-- Every node of the cubed sphere is accepted, also where it is the node of no face.
use Rattle.std.proofs.Common.{◌≡◌, ◌+◌, ◌≤◌, ◌<◌, ◌||◌, ◌==◌, ℕ, pos, ℤ, Bool, true, false, cond, List, [], ◌∷◌, refl, ap, arith, unsigned_abs, All}
use Rattle.std.proofs.lemmas.Int.{ints}
use Rattle.std.proofs.lemmas.Bool.Decides.{nat_tests}
use Rattle.std.proofs.lemmas.List.Elements.{All-from_recursion}
use Rattle.std.specs.List.{AllByRecursion}
use Rattle.vec_exact.specs.declared.Vec3.{Vec3}
use Rattle.vec_exact.specs.Face.{vector_of, IsAcceptedNode}
use Rattle.gen_cs.specs.CubedSphere.{coordinate, is_end, if_node, node_at, row_of, slice_of, nodes_of}
use Rattle.gen_cs.proofs.Pieces.{all_flat_range}

abbrev IsGood : List ℤ → Type 0
IsGood node = IsAcceptedNode (vector_of node)

-- a coordinate at an end is not zero
end_nonzero : (n i : ℕ) → 1 ≤ n → is_end n i ≡ true → coordinate n i ≡ pos 0 → ⊥
end_nonzero n i least end is = grind (arith, ints, nat_tests)

-- one of three tests holds
some_of : (x y z : Bool) (C : Type 0) → (x || y || z) ≡ true → (x ≡ true → C) → (y ≡ true → C) → (z ≡ true → C) → C
some_of true y z C h first second third = first refl
some_of false true z C h first second third = second refl
some_of false false z C h first second third = third h

small : (n i : ℕ) → n ≤ 400 → i < n + 1 → unsigned_abs (coordinate n i) ≤ 262143
small n i large within = omega (arith, ints)

good_node : (n a b c : ℕ) → 1 ≤ n → n ≤ 400 → a < n + 1 → b < n + 1 → c < n + 1
    → (is_end n a || is_end n b || is_end n c) ≡ true → IsGood (node_at n a b c)
good_node n a b c least large a_lt b_lt c_lt end = record {
  nonzero = λ zero.
      some_of (is_end n a) (is_end n b) (is_end n c) ⊥ end
      (λ e. end_nonzero n a least e (ap (λ (v : Vec3). v.x) zero))
      (λ e. end_nonzero n b least e (ap (λ (v : Vec3). v.y) zero))
      (λ e. end_nonzero n c least e (ap (λ (v : Vec3). v.z) zero));
  small = record { x = small n a large a_lt; y = small n b large b_lt; z = small n c large c_lt };
}

-- a triple stands in the list only where the test holds
good_if : (test : Bool) (node : List ℤ) → (test ≡ true → IsGood node) → AllByRecursion IsGood (cond test (node ∷ []) [])
good_if true node good = (good refl, tt)
good_if false node good = tt

pub nodes_accepted : (n : ℕ) → 1 ≤ n → n ≤ 400 → All IsGood (nodes_of n)
unfolding nodes_of
nodes_accepted n least large =
    All-from_recursion IsGood (nodes_of n)
    (all_flat_range IsGood (slice_of n) 0 (n + 1) (λ a a_lt.
    all_flat_range IsGood (row_of n a) 0 (n + 1) (λ b b_lt.
    all_flat_range IsGood (if_node n a b) 0 (n + 1) (λ c c_lt.
    good_if (is_end n a || is_end n b || is_end n c) (node_at n a b c)
    (good_node n a b c least large (omega (arith, a_lt)) (omega (arith, b_lt)) (omega (arith, c_lt)))))))
