-- The list of the candidates of a face, and the candidates as they are found.
use Rattle.std.proofs.Common.{◌≡◌, ℕ, suc, ◌+◌, ◌-◌, ◌<◌, ◌≤◌, ◌⊎◌, inl, inr, ◌↔◌, Bool, true, false, cond, ◌||◌, ℤ, List, [], ◌∷◌, length, refl, sym, ◌∙◌, subst, ap, arith, Option, Some, None}
use Rattle.std.specs.List.{All, AllPairs, Contains, filter, range_with_len}
use Rattle.std.specs.List.Sorted.{IsStrictlyIncreasing}
use Rattle.std.proofs.lemmas.List.FromFn.{length-range_with_len, get_or-range_with_len}
use Rattle.std.proofs.lemmas.List.Elements.{All-from_get_or, All-filter, filter_passes}
use Rattle.std.proofs.lemmas.List.Kept.{IsStrictlyIncreasing-filter, AllPairs-from_increasing}
use Rattle.vec_exact.specs.declared.Vec3.{Vec3}
use Rattle.vec_exact.specs.declared.RawMesh.{RawMesh}
use Rattle.vec_exact.specs.declared.panels.Panel.{Panel}
use Rattle.vec_exact.specs.declared.panels.Panel.TheVariants.{PlusX, PlusY, MinusX, MinusY, PlusZ, MinusZ}
use Rattle.mesh_check.specs.Mesh.{corners_of}
use Rattle.cell_index.specs.declared.CellBox.{CellBox}
use Rattle.cell_index.specs.Candidate.{SharesCell, IsCandidate, AreCandidates, HasCandidates}
use Rattle.cell_index.specs.CandidateList.{do_share_cell, do_share_on, are_candidates, candidates_of, LawCandidatesOf}
use Rattle.cell_index.specs.Fineness.{fineness_of}
use Rattle.cell_index.proofs.Sharing.{ranges_decide}
use Rattle.cell_index.proofs.Ascending.{same_members, member_here, member_there, member_cases}

-- ---- the test of candidates
cell_decides : (x y : Option CellBox) → do_share_cell x y ≡ true ↔ SharesCell x y
cell_decides (Some a) (Some b) = ranges_decide a b
cell_decides (Some a) None = (λ h. absurd (grind arith), λ h. absurd h)
cell_decides None y = (λ h. absurd (grind arith), λ h. absurd h)

or_cases : (a b : Bool) → (a || b) ≡ true → (a ≡ true) ⊎ (b ≡ true)
or_cases true b h = inl refl
or_cases false b h = inr h

or_left : (a b : Bool) → a ≡ true → (a || b) ≡ true
or_left true b h = refl
or_left false b h = absurd (grind arith)

or_right : (a b : Bool) → b ≡ true → (a || b) ≡ true
or_right true b h = refl
or_right false b h = h

module _ (f g : List Vec3) (k : ℤ) where
  on_panel : (panel : Panel) → do_share_on f g k panel ≡ true → IsCandidate f g k
  on_panel panel h = (panel, (cell_decides _ _).0 h)

  abbrev x : Panel → Bool
  x panel = do_share_on f g k panel

  pub candidate_from_test : are_candidates f g k ≡ true → IsCandidate f g k
  candidate_from_test h = elim (or_cases (x PlusX) _ h) [
    | inl a ↦ on_panel PlusX a
    | inr b ↦ elim (or_cases (x PlusY) _ b) [
      | inl a ↦ on_panel PlusY a
      | inr c ↦ elim (or_cases (x MinusX) _ c) [
        | inl a ↦ on_panel MinusX a
        | inr d ↦ elim (or_cases (x MinusY) _ d) [
          | inl a ↦ on_panel MinusY a
          | inr e ↦ elim (or_cases (x PlusZ) _ e) [
            | inl a ↦ on_panel PlusZ a
            | inr a ↦ on_panel MinusZ a
          ]
        ]
      ]
    ]
  ]

  pub test_from_panel : (panel : Panel) → do_share_on f g k panel ≡ true → are_candidates f g k ≡ true
  test_from_panel PlusX h = or_left (x PlusX) _ h
  test_from_panel PlusY h = or_right (x PlusX) _ (or_left (x PlusY) _ h)
  test_from_panel MinusX h = or_right (x PlusX) _ (or_right (x PlusY) _ (or_left (x MinusX) _ h))
  test_from_panel MinusY h = or_right (x PlusX) _ (or_right (x PlusY) _ (or_right (x MinusX) _ (or_left (x MinusY) _ h)))
  test_from_panel PlusZ h = or_right (x PlusX) _ (or_right (x PlusY) _ (or_right (x MinusX) _ (or_right (x MinusY) _ (or_left (x PlusZ) _ h))))
  test_from_panel MinusZ h = or_right (x PlusX) _ (or_right (x PlusY) _ (or_right (x MinusX) _ (or_right (x MinusY) _ (or_right (x PlusZ) _ h))))

  pub test_from_candidate : IsCandidate f g k → are_candidates f g k ≡ true
  test_from_candidate c = test_from_panel c.0 ((cell_decides _ _).1 c.1)

-- ---- filtered lists
kept : {X : Type 0} (p : X → Bool) (x : X) (xs : List X) → p x ≡ true → filter p (x ∷ xs) ≡ x ∷ filter p xs
kept p x xs e = ap (λ (t : Bool). cond t (x ∷ filter p xs) (filter p xs)) e

dropped : {X : Type 0} (p : X → Bool) (x : X) (xs : List X) → p x ≡ false → filter p (x ∷ xs) ≡ filter p xs
dropped p x xs e = ap (λ (t : Bool). cond t (x ∷ filter p xs) (filter p xs)) e

one_at_most : {X : Type 0} (p : X → Bool) (x : X) (xs : List X) (t : Bool) → p x ≡ t → length (filter p xs) ≤ length xs → length (filter p (x ∷ xs)) ≤ suc (length xs)
one_at_most {X} p x xs true e h = subst (λ (l : List X). length l ≤ suc (length xs)) (sym (kept p x xs e)) (omega (arith, h))
one_at_most {X} p x xs false e h = subst (λ (l : List X). length l ≤ suc (length xs)) (sym (dropped p x xs e)) (omega (arith, h))

filter_at_most : {X : Type 0} (p : X → Bool) (xs : List X) → length (filter p xs) ≤ length xs
filter_at_most p [] = omega arith
filter_at_most p (x ∷ xs) = one_at_most p x xs (p x) refl (filter_at_most p xs)

one_member : {X : Type 0} (p : X → Bool) (x : X) (xs : List X) (y : X) (t : Bool) → p x ≡ t → p y ≡ true → (x ≡ y) ⊎ Contains (filter p xs) y → Contains (filter p (x ∷ xs)) y
one_member {X} p x xs y true e h (inl same) =
    subst (λ (l : List X). Contains l y) (sym (kept p x xs e)) (subst (Contains (x ∷ filter p xs)) same (member_here x (filter p xs)))
one_member {X} p x xs y true e h (inr there) = subst (λ (l : List X). Contains l y) (sym (kept p x xs e)) (member_there x y (filter p xs) there)
one_member {X} p x xs y false e h (inl same) =
    let clash : false ≡ true = sym e ∙ ap p same ∙ h in
    absurd (grind arith)
one_member {X} p x xs y false e h (inr there) = subst (λ (l : List X). Contains l y) (sym (dropped p x xs e)) there

filter_member : {X : Type 0} (p : X → Bool) (xs : List X) (y : X) → Contains xs y → p y ≡ true → Contains (filter p xs) y
filter_member p [] y c h = absurd (omega (arith, c.1))
filter_member p (x ∷ xs) y c h =
    one_member p x xs y (p x) refl h (elim (member_cases x y xs c) [
      | inl same ↦ inl same
      | inr there ↦ inr (filter_member p xs y there h)
    ])

-- ---- the faces of a mesh, by number

-- j is the number of a face of the mesh
abbrev pub IsFaceOf : RawMesh → ℕ → Type 0
IsFaceOf b j = (1 ≤ j) × (j ≤ length b.faces)

module _ (b : RawMesh) where
  abbrev faces : List ℕ
  faces = range_with_len 1 (length b.faces)

  faces_ascend : IsStrictlyIncreasing faces
  faces_ascend k l =
      let n = length b.faces in
      let size = length-range_with_len 1 n in
      let here = get_or-range_with_len 1 n k 0 (omega (arith, l, size)) in
      let following = get_or-range_with_len 1 n (k + 1) 0 (omega (arith, l, size)) in
      omega (arith, here, following)

  face_listed : (j : ℕ) → 1 ≤ j → j ≤ length b.faces → Contains faces j
  face_listed j lo hi =
      let n = length b.faces in
      let here : j - 1 < n = omega (arith, lo, hi) in
      (j - 1, omega (arith, here, length-range_with_len 1 n), get_or-range_with_len 1 n (j - 1) j here ∙ omega (arith, lo))

  all_faces : All (IsFaceOf b) faces
  all_faces =
      let n = length b.faces in
      All-from_get_or (IsFaceOf b) faces 0 (λ k l.
      let here = get_or-range_with_len 1 n k 0 (omega (arith, l, length-range_with_len 1 n)) in
      (omega (arith, here), omega (arith, here, l, length-range_with_len 1 n)))

-- ---- the candidates of a face
module _ (a b : RawMesh) where
  abbrev test : ℕ → ℕ → Bool
  test i j = are_candidates (corners_of a i) (corners_of b j) (fineness_of (length b.faces))

  pub candidates_at_most : (i : ℕ) → length (candidates_of a i b) ≤ length b.faces
  unfolding candidates_of
  candidates_at_most i = omega (arith, filter_at_most (test i) (faces b), length-range_with_len 1 (length b.faces))

  pub candidates_ascend : (i : ℕ) → IsStrictlyIncreasing (candidates_of a i b)
  unfolding candidates_of
  candidates_ascend i = IsStrictlyIncreasing-filter (test i) (faces b) (faces_ascend b)

  pub candidates_are_faces : (i : ℕ) → All (IsFaceOf b) (candidates_of a i b)
  unfolding candidates_of
  candidates_are_faces i = All-filter (test i) (IsFaceOf b) (faces b) (all_faces b)

  listed_from_candidate : (i j : ℕ) → AreCandidates a i b j → Contains (candidates_of a i b) j
  unfolding candidates_of
  listed_from_candidate i j c = filter_member (test i) (faces b) j (face_listed b j c.first c.last) (test_from_candidate _ _ _ c.share)

  passes : (i : ℕ) → All (λ j. test i j ≡ true) (candidates_of a i b)
  unfolding candidates_of
  passes i = filter_passes (test i) (faces b)

  candidate_from_listed : (i j : ℕ) → Contains (candidates_of a i b) j → AreCandidates a i b j
  candidate_from_listed i j c =
      let face : IsFaceOf b j = subst (IsFaceOf b) c.2 (candidates_are_faces i c.0 j c.1) in
      let good : test i j ≡ true = subst (λ (x : ℕ). test i x ≡ true) c.2 (passes i c.0 j c.1) in
      record { first = face.0; last = face.1; share = candidate_from_test _ _ _ good }

  one_way : (x y : ℕ) → x < y → y < x → ⊥
  one_way x y p q = omega (arith, p, q)

  below : (l : List ℕ) → IsStrictlyIncreasing l → AllPairs (λ x y. x < y) l
  below l h = AllPairs-from_increasing l h

  -- the ascending list of exactly the candidates is their list
  pub found_candidates : (i : ℕ) (found : List ℕ) → IsStrictlyIncreasing found → HasCandidates a i b found → found ≡ candidates_of a i b
  found_candidates i found h has =
      same_members (λ x y. x < y) one_way found (candidates_of a i b) (below found h) (below (candidates_of a i b) (candidates_ascend i))
      (λ j c. listed_from_candidate i j ((has j).0 c)) (λ j c. (has j).1 (candidate_from_listed i j c))

-- the list has exactly the candidates
pub candidates_listed : LawCandidatesOf
candidates_listed a i b j = (candidate_from_listed a b i j, listed_from_candidate a b i j)
