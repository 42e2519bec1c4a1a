-- The points, sorted and without repeats, are the nodes; and how many there can be.
use Rattle.std.proofs.Common.{◌≡◌, ◌+◌, ◌-◌, ◌*◌, ◌≤◌, ℕ, ℤ, List, [], ◌∷◌, length, length-append, sym, subst, arith}
use Rattle.std.proofs.lemmas.Cmp.{int_cmp_total, int_eq_equiv, lists_equiv, lists_total}
use Rattle.std.proofs.lemmas.List.FromFn.{length-map-range_with_len, length-range_with_len}
use Rattle.std.proofs.lemmas.List.Kept.{Contains-dedup, Contains-from_dedup, IsStrictlySortedBy-dedup}
use Rattle.std.proofs.lemmas.List.Sorted.{Contains-permutation, IsPermutation-sym}
use Rattle.std.specs.List.{Contains, dedup, flat_map, range_with_len}
use Rattle.std.specs.List.Sorted.{IsPermutation, IsSorted}
use Rattle.std.specs.Ordering.{int_cmp, int_eq}
use Rattle.std.specs.Cmp.Lexicographic.{pointwise, slice_cmp}
use Rattle.std.specs.Cmp.Rules.{signed_items}
use Rattle.gen_ico.specs.Icosahedron.{base_triangles}
use Rattle.gen_ico.specs.Icosahedral.{point, points_of, row_points, triangle_points, AreNodes}
use Rattle.gen_ico.proofs.Search.{ties}

pub are_nodes : (n : ℕ) (points sorted nodes : List (List ℤ)) → points ≡ points_of n → IsPermutation points sorted → IsSorted (slice_cmp int_cmp) sorted → nodes ≡ dedup (pointwise int_eq) sorted → AreNodes n nodes
are_nodes n points sorted nodes all moved ordered kept =
    let none = dedup (pointwise int_eq) sorted in
    subst (AreNodes n) (sym kept) (record {
      ascending = IsStrictlySortedBy-dedup (lists_total int_cmp_total) ties sorted ordered;
      points = λ p. (
        λ h. subst (λ l. Contains l p) all (Contains-permutation sorted points p (IsPermutation-sym points sorted moved) (Contains-from_dedup (pointwise int_eq) sorted p h)),
        λ h. Contains-dedup (lists_equiv int_eq_equiv) (λ x y e. (signed_items x y).0 e) sorted p (Contains-permutation points sorted p moved (subst (λ l. Contains l p) (sym all) h)),
      );
    })

length_at_most : {A B : Type 0} (f : A → List B) (m : ℕ) (xs : List A) → ((x : A) → length (f x) ≤ m) → length (flat_map f xs) ≤ length xs * m
length_at_most f m [] h = omega arith
length_at_most f m (x ∷ xs) h = omega (arith, length-append (f x) (flat_map f xs), h x, length_at_most f m xs h)

count_triangle : (n : ℕ) (triangle : List ℕ) → length (triangle_points n triangle) ≤ (n + 1) * (n + 1)
count_triangle n triangle =
    let row : (i : ℕ) → length (row_points n triangle i) ≤ n + 1 = λ i. omega (arith, length-map-range_with_len (point n triangle i) 0 (n + 1 - i)) in
    subst (λ k. length (triangle_points n triangle) ≤ k * (n + 1)) (length-range_with_len 0 (n + 1)) (length_at_most (row_points n triangle) (n + 1) (range_with_len 0 (n + 1)) row)

pub count_points : (n : ℕ) → length (points_of n) ≤ 20 * ((n + 1) * (n + 1))
unfolding points_of
count_points n = length_at_most (triangle_points n) ((n + 1) * (n + 1)) base_triangles (count_triangle n)
