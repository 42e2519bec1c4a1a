-- At most one raw mesh is the icosahedral mesh of a resolution, and at most one its dual.
use Rattle.std.proofs.Common.{◌≡◌, ◌∙◌, ℕ, ℤ, Bool, true, false, cond, List, refl, sym, ap}
use Rattle.std.specs.List.{Contains}
use Rattle.std.specs.List.Sorted.{IsStrictlySortedBy}
use Rattle.std.specs.Ordering.{int_cmp}
use Rattle.std.specs.Cmp.Lexicographic.{slice_cmp}
use Rattle.std.specs.Cmp.Rules.{signed_items}
use Rattle.std.specs.BTreeSet.{BTreeSet, contains}
use Rattle.std.specs.Prelude.{IsTrue}
use Rattle.std.specs.declared.cmp.Ordering.TheVariants.{Equal}
use Rattle.std.proofs.lemmas.Cmp.{int_cmp_total, lists_total}
use Rattle.std.proofs.lemmas.Map.Lookups.{btree_set_from_contains}
use Rattle.std.proofs.lemmas.Map.Views.{btree_set_contains_iff}
use Rattle.vec_exact.specs.declared.RawMesh.{RawMesh}
use Rattle.gen_ico.specs.Icosahedral.{faces_of, AreNodes, IsIcosahedral}
use Rattle.gen_ico.specs.Dual.{dual_of}
use Rattle.gen_ico.specs.Made.{IsMade}
use Rattle.gen_ico.proofs.Search.{test_is}

same_test : (b c : Bool) → (IsTrue b → IsTrue c) → (IsTrue c → IsTrue b) → b ≡ c
same_test true true f g = refl
same_test true false f g = sym (f refl)
same_test false true f g = g refl
same_test false false f g = refl

exact : (x y : List ℤ) → slice_cmp int_cmp x y ≡ Equal → x ≡ y
exact x y e = (signed_items x y).0 (test_is x y Equal e)

-- strictly ascending triples with the same members
one_list : (xs ys : List (List ℤ)) → IsStrictlySortedBy (slice_cmp int_cmp) xs → IsStrictlySortedBy (slice_cmp int_cmp) ys → ((p : List ℤ) → Contains xs p → Contains ys p) → ((p : List ℤ) → Contains ys p → Contains xs p) → xs ≡ ys
one_list xs ys a b there back =
    let total = lists_total int_cmp_total in
    let s : BTreeSet (List ℤ) = record { keys = xs } in
    let t : BTreeSet (List ℤ) = record { keys = ys } in
    let left = btree_set_contains_iff total exact s in
    let right = btree_set_contains_iff total exact t in
    btree_set_from_contains total s t a b (λ q. same_test (contains (slice_cmp int_cmp) s q) (contains (slice_cmp int_cmp) t q) (λ h. (right q).1 (there q ((left q).0 h))) (λ h. (left q).1 (back q ((right q).0 h)))) exact

one_nodes : (n : ℕ) (xs ys : List (List ℤ)) → AreNodes n xs → AreNodes n ys → xs ≡ ys
one_nodes n xs ys a b = one_list xs ys a.ascending b.ascending (λ p h. (b.points p).1 ((a.points p).0 h)) (λ p h. (a.points p).1 ((b.points p).0 h))

same_mesh : (a b : RawMesh) → a.nodes ≡ b.nodes → a.faces ≡ b.faces → a ≡ b
same_mesh a b f g = ap (λ (x : List (List ℤ)). record a { nodes = x }) f ∙ ap (λ (x : List (List ℤ)). record b { faces = x }) g

pub one_icosahedral : (n : ℕ) (a b : RawMesh) → IsIcosahedral n a → IsIcosahedral n b → a ≡ b
one_icosahedral n a b x y =
    let nodes : a.nodes ≡ b.nodes = one_nodes n a.nodes b.nodes x.nodes y.nodes in
    same_mesh a b nodes (x.faces ∙ ap (λ (l : List (List ℤ)). faces_of l n) nodes ∙ sym y.faces)

pub one_made : (n : ℕ) (dual : Bool) (a b : RawMesh) → IsMade n dual a → IsMade n dual b → a ≡ b
one_made n dual a b x y =
    x.is ∙ ap (λ (base : RawMesh). cond dual (dual_of base) base) (one_icosahedral n x.base y.base x.icosahedral y.icosahedral) ∙ sym y.is
