-- A search among directed edges that ascend strictly, and what is counted of them.
use Rattle.std.proofs.Common.{◌≡◌, ◌≢◌, ◌∙◌, ◌+◌, ◌≤◌, ◌<◌, ℕ, ℤ, Bool, true, false, List, [], length, get_or, ◌⊎◌, inl, inr, refl, sym, ap, arith, Result, Ok, Err, subst}
use Rattle.std.specs.Prelude.{not, count_by}
use Rattle.std.specs.Result.{is_ok}
use Rattle.std.specs.List.{Contains, AllPairs, dedup, filter}
use Rattle.std.specs.List.Sorted.{IsBinarySearchResult, IsNonDecreasingBy, IsPermutation, IsSearchInRange, IsSorted, IsStrictlySortedBy}
use Rattle.std.specs.Ordering.{int_cmp, int_eq, eq_by_cmp, is_eq, is_lt, ordering_index, ordering_reverse}
use Rattle.std.specs.Cmp.Lexicographic.{pointwise, slice_cmp, lists_ties}
use Rattle.std.specs.Cmp.Rules.{signed_items}
use Rattle.std.specs.declared.cmp.Ordering.{Ordering}
use Rattle.std.specs.declared.cmp.Ordering.TheVariants.{Less, Equal, Greater}
use Rattle.std.proofs.lemmas.Cmp.{int_cmp_total, int_eq_equiv, lists_equiv, lists_total}
use Rattle.std.proofs.lemmas.List.{get_or_default}
use Rattle.std.proofs.lemmas.List.Folds.{Any-from_list_any, list_any_at, list_any_none}
use Rattle.std.proofs.lemmas.List.Kept.{AllPairs-filter, Contains-dedup, Contains-from_dedup, IsStrictlySortedBy-dedup}
use Rattle.std.proofs.lemmas.List.Sorted.{Contains-permutation, IsPermutation-sym, searchable_from_sorted}
use Rattle.std.proofs.lemmas.List.Sums.{length-filter}
use Rattle.std.proofs.lemmas.Map.Keys.{Less-from_sorted}
use Rattle.vec_exact.specs.declared.RawMesh.{RawMesh}
use Rattle.mesh_partition.specs.Edges.{reverse_edge, edges_of, IsEdge, IsUnpaired, IsEdgeCount}
use Rattle.mesh_partition.specs.SortedEdges.{is_among, is_alone_among}
use Rattle.mesh_partition.proofs.Filtered.{filter_has, filter_from}

ties : (xs ys : List ℤ) → pointwise int_eq xs ys ≡ eq_by_cmp (slice_cmp int_cmp) xs ys
ties = lists_ties int_cmp (λ x y. refl)

test_is : (x t : List ℤ) (o : Ordering) → slice_cmp int_cmp x t ≡ o → pointwise int_eq x t ≡ is_eq o
test_is x t o h = ties x t ∙ ap is_eq h

same_edge : (x y : List ℤ) → pointwise int_eq x y ≡ true → x ≡ y
same_edge x y = (signed_items x y).0

-- edges that ascend strictly are sorted, so that a search tells them apart from t in this order
searchable : (edges : List (List ℤ)) (t : List ℤ) → IsStrictlySortedBy (slice_cmp int_cmp) edges → IsNonDecreasingBy (λ y. ordering_index (slice_cmp int_cmp y t)) edges
searchable edges t sorted = searchable_from_sorted (lists_total int_cmp_total) (λ y. y) edges t rising
  where
    rising : IsSorted (slice_cmp int_cmp) edges
    rising k d low lt =
        let below : slice_cmp int_cmp (get_or edges k d) (get_or edges (k + 1) d) ≡ Less = Less-from_sorted (slice_cmp int_cmp) edges k (k + 1) d sorted (omega arith) lt in
        ap is_lt ((lists_total int_cmp_total).antisymm (get_or edges (k + 1) d) (get_or edges k d) ∙ ap ordering_reverse below)

below_or_not : (k i : ℕ) → (k < i) ⊎ (i ≤ k)
below_or_not k i = grind arith

-- what a search answers tells whether the edge is there
pub search_tells : (edges : List (List ℤ)) (e : List ℤ) (r : Result ℕ ℕ) → IsStrictlySortedBy (slice_cmp int_cmp) edges → IsSearchInRange r (length edges)
    → IsBinarySearchResult (λ y. slice_cmp int_cmp y e) edges r → is_ok r ≡ is_among edges e
search_tells edges e (Ok k) sorted l found =
    sym (list_any_at (λ f. pointwise int_eq f e) edges k [] l (test_is (get_or edges k []) e Equal (found [])))
search_tells edges e (Err i) sorted l found =
    let parted = found (searchable edges e sorted) in
    sym (list_any_none (λ f. pointwise int_eq f e) edges (λ k d lk. elim (below_or_not k i) [
      | inl b ↦ test_is (get_or edges k d) e Less (parted.0 k d (omega arith) b)
      | inr a ↦ test_is (get_or edges k d) e Greater (parted.1 k d a lk)
    ]))

-- ---- the test as a fact
pub among_from : (edges : List (List ℤ)) (e : List ℤ) → is_among edges e ≡ true → Contains edges e
among_from edges e h =
    let (k, x, l, at, t) = Any-from_list_any (λ f. pointwise int_eq f e) edges h in
    let same : x ≡ e = same_edge x e t in
    (k, l, get_or_default edges k e x l ∙ at ∙ same)

pub among_to : (edges : List (List ℤ)) (e : List ℤ) → Contains edges e → is_among edges e ≡ true
among_to edges e (k, l, at) = list_any_at (λ f. pointwise int_eq f e) edges k e l ((signed_items (get_or edges k e) e).1 at)

not_true : (b : Bool) → not b ≡ true → b ≡ true → ⊥
not_true true h g = cc
not_true false h g = cc

not_from : (b : Bool) → (b ≡ true → ⊥) → not b ≡ true
not_from true h = absurd (h refl)
not_from false h = refl

-- ---- different edges, ascending, with the members of all edges
pub record AreDifferent (all edges : List (List ℤ)) : Type 0 where
  pub sorted : IsStrictlySortedBy (slice_cmp int_cmp) edges
  pub from : (e : List ℤ) → Contains edges e → Contains all e
  pub to : (e : List ℤ) → Contains all e → Contains edges e

pub are_different : (mesh : RawMesh) (all moved kept edges : List (List ℤ)) → all ≡ edges_of mesh → IsPermutation all moved → IsSorted (slice_cmp int_cmp) moved → kept ≡ dedup (pointwise int_eq) moved → edges ≡ kept
    → AreDifferent (edges_of mesh) edges
are_different mesh all moved kept edges whole p ordered k e =
    subst (AreDifferent (edges_of mesh)) (sym (e ∙ k))
    (subst (λ (l : List (List ℤ)). AreDifferent l (dedup (pointwise int_eq) moved)) whole
    (record {
      sorted = IsStrictlySortedBy-dedup (lists_total int_cmp_total) ties moved ordered;
      from = λ e h. Contains-permutation moved all e (IsPermutation-sym all moved p) (Contains-from_dedup (pointwise int_eq) moved e h);
      to = λ e h. Contains-dedup (lists_equiv int_eq_equiv) same_edge moved e (Contains-permutation all moved e p h);
    }))

no_two : (edges : List (List ℤ)) → IsStrictlySortedBy (slice_cmp int_cmp) edges → AllPairs (λ e f. e ≢ f) edges
no_two edges sorted i j d l r same =
    let less : slice_cmp int_cmp (get_or edges i d) (get_or edges j d) ≡ Less = Less-from_sorted (slice_cmp int_cmp) edges i j d sorted l r in
    cc (test_is (get_or edges i d) (get_or edges j d) Less less, (signed_items (get_or edges i d) (get_or edges j d)).1 same)

pub count_different : (mesh : RawMesh) (edges : List (List ℤ)) → AreDifferent (edges_of mesh) edges → IsEdgeCount (IsEdge mesh) (length edges)
count_different mesh edges d = (edges, record { different = no_two edges d.sorted; members = λ e. (d.from e, d.to e) }, refl)

pub count_unpaired : (mesh : RawMesh) (edges : List (List ℤ)) (n : ℕ) → AreDifferent (edges_of mesh) edges → n ≡ count_by (is_alone_among edges) edges → IsEdgeCount (IsUnpaired mesh) n
count_unpaired mesh edges n d e =
    let alone = is_alone_among edges in (
      filter alone edges,
      record {
        different = AllPairs-filter (λ e f. e ≢ f) alone edges (no_two edges d.sorted);
        members = λ x. (
          λ c.
              let f = filter_from alone edges x c in
              record {
                edge = d.from x f.0;
                alone = λ r. not_true (is_among edges (reverse_edge x)) f.1 (among_to edges (reverse_edge x) (d.to (reverse_edge x) r));
              },
          λ u. filter_has alone edges x
              (not_from (is_among edges (reverse_edge x)) (λ h. u.alone (d.from (reverse_edge x) (among_from edges (reverse_edge x) h))))
              (d.to x u.edge),
        );
      },
      length-filter alone edges ∙ sym e,
    )
