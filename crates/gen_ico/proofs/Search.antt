-- What a search among strictly ascending triples answers is the first place of the triple.
use Rattle.std.proofs.Common.{◌≡◌, ◌∙◌, ◌+◌, ◌≤◌, ◌<◌, ℕ, ℤ, false, List, [], length, get_or, ◌⊎◌, inl, inr, refl, sym, ap, arith}
use Rattle.std.specs.List.{position_or_len}
use Rattle.std.specs.List.Sorted.{IsNonDecreasingBy, IsSorted, IsStrictlySortedBy}
use Rattle.std.specs.Ordering.{int_cmp, int_eq, eq_by_cmp, is_eq, is_lt, ordering_index, ordering_reverse}
use Rattle.std.specs.Cmp.Lexicographic.{pointwise, slice_cmp, lists_ties}
use Rattle.std.specs.declared.cmp.Ordering.{Ordering}
use Rattle.std.specs.declared.cmp.Ordering.TheVariants.{Less, Equal, Greater}
use Rattle.std.specs.Cmp.Rules.{signed_items}
use Rattle.std.proofs.lemmas.Cmp.{int_cmp_total, lists_total}
use Rattle.std.proofs.lemmas.List.Sorted.{searchable_from_sorted}
use Rattle.std.proofs.lemmas.Map.Keys.{Less-from_sorted}
use Rattle.std.proofs.lemmas.List.Sums.{position_or_len_is}

pub ties : (xs ys : List ℤ) → pointwise int_eq xs ys ≡ eq_by_cmp (slice_cmp int_cmp) xs ys
ties = lists_ties int_cmp (λ x y. refl)

-- where the order tells two triples apart, or not, so does the test
pub test_is : (x t : List ℤ) (o : Ordering) → slice_cmp int_cmp x t ≡ o → pointwise int_eq x t ≡ is_eq o
test_is x t o h = ties x t ∙ ap is_eq h

-- a triple that stands at place k
pub found_place : (nodes : List (List ℤ)) (t : List ℤ) (k : ℕ) → IsStrictlySortedBy (slice_cmp int_cmp) nodes → k < length nodes → slice_cmp int_cmp (get_or nodes k []) t ≡ Equal
    → position_or_len (λ m. pointwise int_eq m t) nodes ≡ k
found_place nodes t k sorted lt is =
    let at = get_or nodes k [] in
    let same : at ≡ t = (signed_items at t).0 (test_is at t Equal is) in
    position_or_len_is (λ m. pointwise int_eq m t) nodes k [] (omega (arith, lt))
    (λ i i_lt. test_is (get_or nodes i []) t Less (ap (λ y. slice_cmp int_cmp (get_or nodes i []) y) (sym same) ∙ Less-from_sorted (slice_cmp int_cmp) nodes i k [] sorted i_lt lt))
    (λ _. test_is at t Equal is)

-- a triple that stands nowhere
pub no_place : (nodes : List (List ℤ)) (t : List ℤ) (i : ℕ)
    → ((k : ℕ) → k < i → slice_cmp int_cmp (get_or nodes k []) t ≡ Less)
    → ((k : ℕ) → i ≤ k → k < length nodes → slice_cmp int_cmp (get_or nodes k []) t ≡ Greater)
    → position_or_len (λ m. pointwise int_eq m t) nodes ≡ length nodes
no_place nodes t i below above =
    position_or_len_is (λ m. pointwise int_eq m t) nodes (length nodes) [] (omega arith)
    (λ k lt. misses k lt (below_or_not k i))
    (λ lt. absurd (omega (arith, lt)))
  where
    below_or_not : (k i : ℕ) → (k < i) ⊎ (i ≤ k)
    below_or_not k i = grind arith

    misses : (k : ℕ) → k < length nodes → (k < i) ⊎ (i ≤ k) → pointwise int_eq (get_or nodes k []) t ≡ false
    misses k lt (inl l) = test_is (get_or nodes k []) t Less (below k l)
    misses k lt (inr g) = test_is (get_or nodes k []) t Greater (above k g lt)

-- strictly ascending triples are sorted, so that a search tells them apart from t in this order
pub searchable : (nodes : List (List ℤ)) (t : List ℤ) → IsStrictlySortedBy (slice_cmp int_cmp) nodes → IsNonDecreasingBy (λ y. ordering_index (slice_cmp int_cmp y t)) nodes
searchable nodes t sorted = searchable_from_sorted (lists_total int_cmp_total) (λ y. y) nodes t rising
  where
    rising : IsSorted (slice_cmp int_cmp) nodes
    rising k d low lt =
        let below : slice_cmp int_cmp (get_or nodes k d) (get_or nodes (k + 1) d) ≡ Less = Less-from_sorted (slice_cmp int_cmp) nodes k (k + 1) d sorted (omega arith) lt in
        ap is_lt ((lists_total int_cmp_total).antisymm (get_or nodes (k + 1) d) (get_or nodes k d) ∙ ap ordering_reverse below)
