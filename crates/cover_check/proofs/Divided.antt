-- Dividing a target: parts are replaced by smaller ones.
use Rattle.std.proofs.Common.{◌≡◌, ◌≢◌, ℕ, zero, suc, ◌+◌, ◌<◌, ◌≤◌, ◌⊎◌, inl, inr, true, List, [], ◌∷◌, ◌++◌, length, map, arith, refl, sym, ap, ◌∙◌, subst, append_assoc, slice_index, slice_index_or}
use Rattle.std.specs.Prelude.{All, Any}
use Rattle.std.specs.List.{Contains}
use Rattle.std.proofs.lemmas.List.{get_or_default, map-append}
use Rattle.std.proofs.lemmas.List.Elements.{All-append, All-cons, All-contains, All-push, Contains-append_left, Contains-append_right, Contains-get_or, Contains-push}
use Rattle.vec_exact.specs.declared.RawMesh.{RawMesh}
use Rattle.vec_exact.specs.declared.Vec3.{Vec3}
use Rattle.vec_exact.proofs.Cycles.{same_or_not}
use Rattle.cone_laws.specs.Inside.{IsInside}
use Rattle.mesh_check.specs.Mesh.{corners_of}
use Rattle.cover_cells.specs.declared.cells.CellPlane.{CellPlane}
use Rattle.cover_cells.specs.Cells.{IsCell, IsSource, IsAway, IsOffEdges, is_in_cell, cells_with}
use Rattle.cover_cells.proofs.Counts.{cells_with-append}
use Rattle.cover_check.specs.Parts.{PartView, with_faces, parts_with, IsSoundPart, IsPartOf, IsCellOf, IsDivided}

-- ---- lists
all_from : {X : Type 0} (P : X → Type 0) (xs : List X) → ((x : X) → Contains xs x → P x) → All P xs
all_from P xs h = λ k d l. h (slice_index_or xs k d) (Contains-get_or xs k d l)

-- a list in three parts, the last of which is one item
first_part : {X : Type 0} (P : X → Type 0) (xs ys : List X) (z : X) → All P (xs ++ (ys ++ z ∷ [])) → All P xs
first_part P xs ys z h = all_from P xs (λ x c. All-contains P (xs ++ (ys ++ z ∷ [])) x h (Contains-append_left xs (ys ++ z ∷ []) x c))

second_part : {X : Type 0} (P : X → Type 0) (xs ys : List X) (z : X) → All P (xs ++ (ys ++ z ∷ [])) → All P ys
second_part P xs ys z h = all_from P ys (λ x c. All-contains P (xs ++ (ys ++ z ∷ [])) x h (Contains-append_right xs (ys ++ z ∷ []) x (Contains-append_left ys (z ∷ []) x c)))

last_item : {X : Type 0} (P : X → Type 0) (xs ys : List X) (z : X) → All P (xs ++ (ys ++ z ∷ [])) → P z
last_item P xs ys z h = All-contains P (xs ++ (ys ++ z ∷ [])) z h (Contains-append_right xs (ys ++ z ∷ []) z (Contains-push ys z))

module _ (sources : RawMesh) (target : List Vec3) where
  abbrev with : Vec3 → List PartView → ℕ
  with d parts = parts_with sources target d parts

  with-append : (d : Vec3) (xs ys : List PartView) → with d (xs ++ ys) ≡ with d xs + with d ys
  with-append d xs ys =
      ap (cells_with sources target d) (map-append (λ (p : PartView). p.cell) xs ys)
      ∙ cells_with-append sources target d (map (λ (p : PartView). p.cell) xs) (map (λ (p : PartView). p.cell) ys)

  -- three parts of a list
  with_three : (d : Vec3) (xs ys zs : List PartView) → with d (xs ++ (ys ++ zs)) ≡ with d xs + (with d ys + with d zs)
  with_three d xs ys zs = omega (arith, with-append d xs (ys ++ zs), with-append d ys zs)

  -- near are those of the faces that may still meet the cell
  pub record AreNear (cell : List CellPlane) (faces near : List ℕ) : Type 0 where
    pub among : All (Contains faces) near
    pub away : (i : ℕ) → Contains faces i → Contains near i ⊎ IsAway sources target cell i

  module _ (all : List ℕ) where
    -- a part with fewer faces
    fewer_faces : (p : PartView) (near : List ℕ) → IsPartOf sources target all p → AreNear p.cell p.faces near → IsPartOf sources target all (record { cell = p.cell; faces = near })
    fewer_faces p near h n = record {
      ring = h.ring;
      within = h.within;
      among = all_from (Contains all) near (λ x c. All-contains (Contains all) p.faces x h.among (All-contains (Contains p.faces) near x n.among c));
      beyond = λ d inside k l. elim (h.beyond d inside k l) [
        | inr b ↦ inr b
        | inl c ↦ elim (n.away (slice_index all k) c) [
          | inl still ↦ inl still
          | inr away ↦ inr (away d inside)
        ]
      ];
    }

    not_in_none : {A : Type 0} (i : ℕ) (l : List ℕ) → length l ≡ 0 → Contains l i → A
    not_in_none i l e (k, lk, at) = absurd (omega (arith, lk, e))

    -- a part without a face
    as_cell : (p : PartView) (near : List ℕ) → IsPartOf sources target all p → AreNear p.cell p.faces near → length near ≡ 0 → IsCellOf sources target all p.cell
    as_cell p near h n e =
        let q = fewer_faces p near h n in
        record {
          ring = h.ring;
          within = h.within;
          beyond = λ d inside k l. elim (q.beyond d inside k l) [
            | inl c ↦ not_in_none (slice_index all k) near e c
            | inr b ↦ b
          ];
        }

    module _ (before others : List PartView) (p : PartView) (cells : List (List CellPlane)) (h : IsDivided sources target all (before ++ (others ++ p ∷ [])) cells) where
      -- the last part has no face near it
      pub settled_last : (near : List ℕ) → AreNear p.cell p.faces near → length near ≡ 0 → IsDivided sources target all (before ++ others) (cells ++ p.cell ∷ [])
      settled_last near n e = record {
        each_part = All-append (IsPartOf sources target all) before others (first_part (IsPartOf sources target all) before others p h.each_part) (second_part (IsPartOf sources target all) before others p h.each_part);
        each_cell = All-push (IsCellOf sources target all) cells p.cell h.each_cell (as_cell p near (last_item (IsPartOf sources target all) before others p h.each_part) n e);
        one = λ d inside off. omega (
          arith,
          with-append d before others,
          cells_with-append sources target d cells (p.cell ∷ []),
          with_three d before others (p ∷ []),
          h.one d inside off,
        );
      }

      -- it has some
      pub replaced_last : (near : List ℕ) → AreNear p.cell p.faces near → IsDivided sources target all ((before ++ record { cell = p.cell; faces = near } ∷ []) ++ others) cells
      replaced_last near n =
          let q : PartView = record { cell = p.cell; faces = near } in
          record {
            each_part = All-append (IsPartOf sources target all) (before ++ q ∷ []) others
                (All-push (IsPartOf sources target all) before q (first_part (IsPartOf sources target all) before others p h.each_part) (fewer_faces p near (last_item (IsPartOf sources target all) before others p h.each_part) n))
                (second_part (IsPartOf sources target all) before others p h.each_part);
            each_cell = h.each_cell;
            one = λ d inside off. omega (
              arith,
              with-append d (before ++ q ∷ []) others,
              with-append d before (q ∷ []),
              with_three d before others (p ∷ []),
              h.one d inside off,
            );
          }

      -- it is cut by one of its faces
      pub cut_last : (pieces : List (List CellPlane)) (i : ℕ) → Contains p.faces i
          → All (IsCell sources target) pieces
          → All (λ cell. (d : Vec3) → is_in_cell sources target d cell ≡ true → Any (λ given. is_in_cell sources target d given ≡ true) (p.cell ∷ [])) pieces
          → ((d : Vec3) → IsOffEdges (corners_of sources i) d → ¬ IsInside (corners_of sources i) d → cells_with sources target d pieces ≡ cells_with sources target d (p.cell ∷ []))
          → IsDivided sources target all (before ++ (others ++ with_faces p.faces pieces)) cells
      cut_last pieces i c rings given outside =
          let part = last_item (IsPartOf sources target all) before others p h.each_part in
          let listed : Contains all i = All-contains (Contains all) p.faces i part.among c in
          record {
            each_part = All-append (IsPartOf sources target all) before (others ++ with_faces p.faces pieces)
                (first_part (IsPartOf sources target all) before others p h.each_part)
                (All-append (IsPartOf sources target all) others (with_faces p.faces pieces)
                (second_part (IsPartOf sources target all) before others p h.each_part)
                (each_piece part pieces rings given));
            each_cell = h.each_cell;
            one = λ d inside off.
                let here = off_listed d i listed off in
                omega (
                  arith,
                  with_three d before others (with_faces p.faces pieces),
                  with_three d before others (p ∷ []),
                  ap (cells_with sources target d) (own_cells pieces),
                  outside d here.0 here.1,
                  h.one d inside off,
                );
          }
        where
          own_cells : (cs : List (List CellPlane)) → map (λ (q : PartView). q.cell) (with_faces p.faces cs) ≡ cs
          own_cells [] = refl
          own_cells (x ∷ xs) = ap (λ (l : List (List CellPlane)). x ∷ l) (own_cells xs)

          off_listed : (d : Vec3) (i : ℕ) → Contains all i
              → ((k : ℕ) → k < length all → IsOffEdges (corners_of sources (slice_index all k)) d × ¬ IsInside (corners_of sources (slice_index all k)) d)
              → IsOffEdges (corners_of sources i) d × ¬ IsInside (corners_of sources i) d
          off_listed d i (k, l, at) off =
              subst (λ (j : ℕ). IsOffEdges (corners_of sources j) d × ¬ IsInside (corners_of sources j) d) (get_or_default all k 0 i l ∙ at) (off k l)

          in_only : (d : Vec3) (cell : List CellPlane) → Any (λ given. is_in_cell sources target d given ≡ true) (cell ∷ []) → is_in_cell sources target d cell ≡ true
          in_only d cell (zero, g, l, at, has) = subst (λ (o : List CellPlane). is_in_cell sources target d o ≡ true) (sym at) has
          in_only d cell (suc k, g, l, at, has) = absurd (omega (arith, l))

          one_piece : IsPartOf sources target all p → (cell : List CellPlane) → IsCell sources target cell
              → ((d : Vec3) → is_in_cell sources target d cell ≡ true → is_in_cell sources target d p.cell ≡ true) → IsPartOf sources target all (record { cell = cell; faces = p.faces })
          one_piece part cell ring inner = record {
            ring = ring;
            within = λ d has. part.within d (inner d has);
            among = part.among;
            beyond = λ d has. part.beyond d (inner d has);
          }

          each_piece : IsPartOf sources target all p → (cs : List (List CellPlane)) → All (IsCell sources target) cs
              → All (λ cell. (d : Vec3) → is_in_cell sources target d cell ≡ true → Any (λ given. is_in_cell sources target d given ≡ true) (p.cell ∷ [])) cs
              → All (IsPartOf sources target all) (with_faces p.faces cs)
          each_piece part [] rings given = λ k d l. absurd (omega arith)
          each_piece part (x ∷ xs) rings given =
              All-cons (IsPartOf sources target all) (record { cell = x; faces = p.faces }) (with_faces p.faces xs)
              (one_piece part x (rings 0 [] (omega arith)) (λ d has. in_only d p.cell (given 0 [] (omega arith) d has)))
              (each_piece part xs (λ k d l. rings (suc k) d (omega arith)) (λ k d l. given (suc k) d (omega arith)))

  -- ---- one of several cells that have the same faces
  -- what is told of the faces near a cell
  pub are_near : (cell : List CellPlane) (faces near : List ℕ) (skip : ℕ) → All (λ i. IsSource sources i × Contains faces i) near
      → ((t : ℕ) → t < length faces → t ≢ skip → Contains near (slice_index faces t) ⊎ IsAway sources target cell (slice_index faces t))
      → (skip < length faces → IsAway sources target cell (slice_index faces skip)) → AreNear cell faces near
  are_near cell faces near skip among away skipped = record {
    among = λ k d l. (among k d l).1;
    away = λ i (t, l, at).
        let same : slice_index faces t ≡ i = get_or_default faces t 0 i l ∙ at in
        subst (λ (x : ℕ). Contains near x ⊎ IsAway sources target cell x) same
        (elim (same_or_not t skip) [
          | inl e ↦ inr (subst (λ (s : ℕ). IsAway sources target cell (slice_index faces s)) (sym e) (skipped (subst (λ (s : ℕ). s < length faces) e l)))
          | inr ne ↦ away t l ne
        ]);
  }

  module _ (all : List ℕ) (before others : List PartView) (faces near : List ℕ) (pieces : List (List CellPlane)) (cell : List CellPlane) (cells : List (List CellPlane))
      (h : IsDivided sources target all (before ++ (others ++ with_faces faces (pieces ++ cell ∷ []))) cells) (n : AreNear cell faces near) where
    last_apart : IsDivided sources target all (before ++ ((others ++ with_faces faces pieces) ++ record { cell = cell; faces = faces } ∷ [])) cells
    last_apart =
        let one : with_faces faces (pieces ++ cell ∷ []) ≡ with_faces faces pieces ++ record { cell = cell; faces = faces } ∷ [] = map-append (λ (c : List CellPlane). record { cell = c; faces = faces }) pieces (cell ∷ []) in
        subst (λ (l : List PartView). IsDivided sources target all (before ++ l) cells)
        (ap (λ (l : List PartView). others ++ l) one ∙ sym (append_assoc others (with_faces faces pieces) (record { cell = cell; faces = faces } ∷ []))) h

    pub spread_settled : length near ≡ 0 → IsDivided sources target all (before ++ (others ++ with_faces faces pieces)) (cells ++ cell ∷ [])
    spread_settled e = settled_last all before (others ++ with_faces faces pieces) (record { cell = cell; faces = faces }) cells last_apart near n e

    pub spread_further : IsDivided sources target all ((before ++ record { cell = cell; faces = near } ∷ []) ++ (others ++ with_faces faces pieces)) cells
    spread_further = replaced_last all before (others ++ with_faces faces pieces) (record { cell = cell; faces = faces }) cells last_apart near n

  -- a part that has faces near it is sound
  pub sound_part : (m : ℕ) (cell : List CellPlane) (faces near : List ℕ) → IsCell sources target cell → All (λ i. IsSource sources i × Contains faces i) near → 1 ≤ length near → length near ≤ m
      → IsSoundPart sources target m (record { cell = cell; faces = near })
  sound_part m cell faces near ring among some few = record { ring = ring; named = λ k d l. (among k d l).0; some = some; few = few }
