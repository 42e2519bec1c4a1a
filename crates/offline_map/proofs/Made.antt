-- The map of an overlap that was tested.
use Rattle.std.proofs.Common.{◌≡◌, ◌≢◌, ◌∙◌, inl, inr, ℕ, zero, suc, ◌+◌, ◌-◌, ◌<◌, ◌≤◌, ℤ, pos, ◌+ℤ◌, ◌≤ℤ◌, ◌<ℤ◌, Bool, true, false, cond, eqb, List, [], ◌∷◌, length, map, take, get_or, arith, ap, ap₂, sym, subst, refl, eq-eqb}
use Rattle.std.specs.List.{All, AllPairs}
use Rattle.std.proofs.lemmas.Int.{ints}
use Rattle.std.proofs.lemmas.List.{length-map, get_or-map, get_or-take, length-take}
use Rattle.std.proofs.lemmas.List.Elements.{All-weaker, All-map, All-get_or}
use Rattle.vec_exact.specs.declared.RawMesh.{RawMesh}
use Rattle.vec_exact.proofs.Cycles.{below_same_above}
use Rattle.clip.specs.declared.pieces.Piece.{Piece}
use Rattle.clip.specs.Overlaps.{OverlapParts, IsBefore, IsFaceCount, IsSoundPiece, IsSoundOverlap}
use Rattle.piece_measure.specs.Piece.{piece_measure_of}
use Rattle.map_rows.specs.declared.rows.MapRow.{MapRow}
use Rattle.map_rows.specs.Maps.{measure_of, sum_at, areas_of, source_of, target_of, ComesBefore, IsSoundRow, IsSoundMap}
use Rattle.map_rows.proofs.FaceSums.{differ, length-sums_of, get_or-sums_of, sum_at-none, sum_at-cons}
use Rattle.offline_map.specs.declared.faults.MapFault.{MapFault}
use Rattle.offline_map.specs.declared.faults.MapFault.TheVariants.{CountsA, CountsB, Row, Uncovered, NoMemory}
use Rattle.offline_map.specs.Maps.{row_of, map_of}
use Rattle.offline_map.specs.MapFaults.{IsRightPiece, HasCountsOf, HasRow, IsFaultOfAreas, IsMapFaultOf}
use Rattle.offline_map.proofs.FirstFaults.{no_piece}

measure_bounds : (corners : List (List ℤ)) → (1 ≤ piece_measure_of corners) × (piece_measure_of corners ≤ 1099511627775)
unfolding piece_measure_of
measure_bounds corners = (omega arith, omega arith)

sound_row : (n_a n_b : ℕ) (p : Piece) → IsSoundPiece n_a n_b p → IsSoundRow n_a n_b (row_of p)
sound_row n_a n_b p s =
    let bounds = measure_bounds p.corners in
    record { source = s.source; target = s.target; least = omega (arith, ints, bounds.0); greatest = omega (arith, ints, bounds.1) }

sound_rows : (n_a n_b : ℕ) (pieces : List Piece) → All (IsSoundPiece n_a n_b) pieces → All (IsSoundRow n_a n_b) (map row_of pieces)
sound_rows n_a n_b pieces h =
    All-map (IsSoundRow n_a n_b) row_of pieces (All-weaker (IsSoundPiece n_a n_b) (λ (p : Piece). IsSoundRow n_a n_b (row_of p)) (sound_row n_a n_b) pieces h)

pub sound_rows_of : (o : OverlapParts) (n_a n_b : ℕ) (rows : List MapRow) → IsSoundOverlap o → n_a ≡ o.faces_a → n_b ≡ o.faces_b → rows ≡ map row_of o.pieces → All (IsSoundRow n_a n_b) rows
sound_rows_of o n_a n_b rows s source target e =
    subst (λ (xs : List MapRow). All (IsSoundRow n_a n_b) xs) (sym e)
    (subst (λ (n : ℕ). All (IsSoundRow n n_b) (map row_of o.pieces)) (sym source)
    (subst (λ (n : ℕ). All (IsSoundRow o.faces_a n) (map row_of o.pieces)) (sym target) (sound_rows o.faces_a o.faces_b o.pieces s.pieces)))

-- the areas of the targets, from the rows that were made
pub target_areas_of : (o : OverlapParts) (n : ℕ) (rows : List MapRow) (areas : List ℤ) → n ≡ o.faces_b → rows ≡ map row_of o.pieces → areas ≡ areas_of target_of n rows
    → areas ≡ areas_of target_of o.faces_b (map row_of o.pieces)
target_areas_of o n rows areas e f g = g ∙ ap₂ (λ (m : ℕ) (xs : List MapRow). areas_of target_of m xs) e f

-- ---- an area is at least 1 exactly where there is a row
abbrev piece_area : List Piece → ℕ → ℤ
piece_area pieces j = sum_at target_of measure_of (map row_of pieces) j

area-cons : (p : Piece) (pieces : List Piece) (j : ℕ) → piece_area (p ∷ pieces) j ≡ cond (eqb p.b j) (pos (piece_measure_of p.corners)) (pos 0) +ℤ piece_area pieces j
area-cons p pieces j = sum_at-cons target_of measure_of (row_of p) (map row_of pieces) j

part_least : (b : Bool) (s : ℕ) → pos 0 ≤ℤ cond b (pos s) (pos 0)
part_least true s = omega (arith, ints)
part_least false s = omega (arith, ints)

area_least : (pieces : List Piece) (j : ℕ) → pos 0 ≤ℤ piece_area pieces j
area_least [] j = omega (arith, ints, sum_at-none target_of measure_of j)
area_least (p ∷ pieces) j = omega (arith, ints, area-cons p pieces j, part_least (eqb p.b j) (piece_measure_of p.corners), area_least pieces j)

area_other : (p : Piece) (pieces : List Piece) (j : ℕ) → p.b ≢ j → piece_area (p ∷ pieces) j ≡ piece_area pieces j
area_other p pieces j n =
    let none : (pos 0 +ℤ piece_area pieces j) ≡ piece_area pieces j = omega (arith, ints) in
    area-cons p pieces j ∙ ap (λ (t : Bool). cond t (pos (piece_measure_of p.corners)) (pos 0) +ℤ piece_area pieces j) (differ p.b j n) ∙ none

area_same : (p : Piece) (pieces : List Piece) (j : ℕ) → p.b ≡ j → piece_area (p ∷ pieces) j ≡ pos (piece_measure_of p.corners) +ℤ piece_area pieces j
area_same p pieces j e = area-cons p pieces j ∙ ap (λ (t : Bool). cond t (pos (piece_measure_of p.corners)) (pos 0) +ℤ piece_area pieces j) (eq-eqb p.b j e)

area_at_least : (p : Piece) (pieces : List Piece) (j : ℕ) → piece_area pieces j ≤ℤ piece_area (p ∷ pieces) j
area_at_least p pieces j = omega (arith, ints, area-cons p pieces j, part_least (eqb p.b j) (piece_measure_of p.corners))

has_area : (pieces : List Piece) (j k : ℕ) (q : Piece) → k < length pieces → get_or pieces k q ≡ q → q.b ≡ j → pos 1 ≤ℤ piece_area pieces j
has_area [] j k q l e b = absurd (omega (arith, l))
has_area (p ∷ pieces) j zero q l e b =
    let here : p.b ≡ j = ap (λ (r : Piece). r.b) e ∙ b in
    omega (arith, ints, area_same p pieces j here, area_least pieces j, (measure_bounds p.corners).0)
has_area (p ∷ pieces) j (suc k) q l e b = omega (arith, ints, has_area pieces j k q (omega (arith, l)) e b, area_at_least p pieces j)

-- one piece more
one_more_piece : (p : Piece) (pieces : List Piece) (j : ℕ) → HasRow pieces j → HasRow (p ∷ pieces) j
one_more_piece p pieces j h = (suc h.0, h.1, omega (arith, h.2), h.3, h.4)

has_row : (pieces : List Piece) (j : ℕ) → pos 1 ≤ℤ piece_area pieces j → HasRow pieces j
has_row [] j h = absurd (omega (arith, ints, h, sum_at-none target_of measure_of j))
has_row (p ∷ pieces) j h =
    elim (below_same_above p.b j) [
      | inl l ↦ one_more_piece p pieces j (has_row pieces j (subst (λ (x : ℤ). pos 1 ≤ℤ x) (area_other p pieces j (omega (arith, l))) h))
      | inr (inl e) ↦ (0, p, omega arith, refl, e)
      | inr (inr l) ↦ one_more_piece p pieces j (has_row pieces j (subst (λ (x : ℤ). pos 1 ≤ℤ x) (area_other p pieces j (omega (arith, l))) h))
    ]

-- the area at place k
area_at : (o : OverlapParts) (areas : List ℤ) (k j : ℕ) (d : ℤ) → areas ≡ areas_of target_of o.faces_b (map row_of o.pieces) → k < o.faces_b → 1 + k ≡ j
    → get_or areas k d ≡ piece_area o.pieces j
area_at o areas k j d e l p = ap (λ (xs : List ℤ). get_or xs k d) e ∙ get_or-sums_of target_of measure_of o.faces_b (map row_of o.pieces) k j d l p

size_of_areas : (o : OverlapParts) (areas : List ℤ) → areas ≡ areas_of target_of o.faces_b (map row_of o.pieces) → length areas ≡ o.faces_b
size_of_areas o areas e = ap (length {A = ℤ}) e ∙ length-sums_of target_of measure_of o.faces_b (map row_of o.pieces)

pub few_areas : (o : OverlapParts) (areas : List ℤ) → IsSoundOverlap o → areas ≡ areas_of target_of o.faces_b (map row_of o.pieces) → length areas ≤ 1048576
few_areas o areas s e = omega (arith, size_of_areas o areas e, s.target_faces.1)

-- where each area is at least 1, each target face has a row
pub all_covered : (o : OverlapParts) (areas : List ℤ) → areas ≡ areas_of target_of o.faces_b (map row_of o.pieces) → All (λ (area : ℤ). pos 1 ≤ℤ area) areas
    → (j : ℕ) → 1 ≤ j → j ≤ o.faces_b → HasRow o.pieces j
all_covered o areas e all j least most =
    let k = j - 1 in
    has_row o.pieces j
    (subst (λ (x : ℤ). pos 1 ≤ℤ x) (area_at o areas k j (pos 0) e (omega arith) (omega arith))
    (All-get_or (λ (area : ℤ). pos 1 ≤ℤ area) areas k (pos 0) (omega (arith, size_of_areas o areas e)) all))

covered_before : (o : OverlapParts) (areas : List ℤ) (j k : ℕ) → areas ≡ areas_of target_of o.faces_b (map row_of o.pieces) → All (λ (area : ℤ). pos 1 ≤ℤ area) (take (j - 1) areas)
    → j ≤ length areas → 1 ≤ k → k < j → HasRow o.pieces k
covered_before o areas j k e all within least below =
    let p = k - 1 in
    let size = size_of_areas o areas e in
    let same = get_or-take (j - 1) areas p (pos 0) (omega arith) ∙ area_at o areas p k (pos 0) e (omega (arith, size)) (omega arith) in
    has_row o.pieces k
    (subst (λ (x : ℤ). pos 1 ≤ℤ x) same
    (All-get_or (λ (area : ℤ). pos 1 ≤ℤ area) (take (j - 1) areas) p (pos 0) (omega (arith, length-take (j - 1) areas)) all))

-- the first target without an area is the fault of an overlap whose pieces are right
pub fault_of_areas : (a b : RawMesh) (o : OverlapParts) (areas : List ℤ) (found : MapFault) → HasCountsOf a b o → All (IsRightPiece a b) o.pieces
    → areas ≡ areas_of target_of o.faces_b (map row_of o.pieces) → IsFaultOfAreas areas found → IsMapFaultOf a b o found
fault_of_areas a b o areas (Uncovered j) n right e h =
    let size = size_of_areas o areas e in
    let below = subst (λ (x : ℤ). x <ℤ pos 1) (area_at o areas (j - 1) j (pos 0) e (omega (arith, h.least, h.greatest, size)) (omega (arith, h.least))) (h.here (pos 0)) in (
      n,
      right,
      record {
        least = h.least;
        greatest = omega (arith, h.greatest, size);
        before = λ k l m. covered_before o areas j k e h.before h.greatest l m;
        here = λ r. omega (arith, ints, below, has_area o.pieces j r.0 r.1 r.2 r.3 r.4);
      },
    )
fault_of_areas a b o areas (CountsA m k) n right e h = absurd h
fault_of_areas a b o areas (CountsB m k) n right e h = absurd h
fault_of_areas a b o areas (Row r) n right e h = absurd h
fault_of_areas a b o areas NoMemory n right e h = absurd h

rows_ascend : (pieces : List Piece) → AllPairs IsBefore pieces → AllPairs ComesBefore (map row_of pieces)
rows_ascend pieces h = λ i j d l m.
    let size = length-map pieces row_of in
    let p = get_or pieces i no_piece in
    let q = get_or pieces j no_piece in
    let first = get_or-map row_of pieces i no_piece d (omega (arith, size)) in
    let second = get_or-map row_of pieces j no_piece d (omega (arith, size)) in
    let known : ComesBefore (row_of p) (row_of q) = h i j no_piece l (omega (arith, size)) in
    subst (λ (r : MapRow). ComesBefore (get_or (map row_of pieces) i d) r) (sym second) (subst (λ (r : MapRow). ComesBefore r (row_of q)) (sym first) known)

-- the parts of the map of an overlap whose target faces have areas
pub sound_map : (o : OverlapParts) (n_a n_b : ℕ) (rows : List MapRow) (area_a area_b : List ℤ) → IsSoundOverlap o → n_a ≡ o.faces_a → n_b ≡ o.faces_b → rows ≡ map row_of o.pieces
    → area_a ≡ areas_of source_of n_a rows → area_b ≡ areas_of target_of n_b rows → All (λ (area : ℤ). pos 1 ≤ℤ area) area_b
    → IsSoundMap (record { n_a = n_a; n_b = n_b; rows = rows; area_a = area_a; area_b = area_b })
sound_map o n_a n_b rows area_a area_b s source target e source_areas target_areas covered = record {
  source_faces = subst IsFaceCount (sym source) s.source_faces;
  target_faces = subst IsFaceCount (sym target) s.target_faces;
  count = omega (arith, s.count, length-map o.pieces row_of, ap (length {A = MapRow}) e);
  ascending = subst (AllPairs ComesBefore) (sym e) (rows_ascend o.pieces s.ascending);
  rows = sound_rows_of o n_a n_b rows s source target e;
  source_areas = source_areas;
  target_areas = target_areas;
  covered = covered;
}

areas_covered : (o : OverlapParts) → ((j : ℕ) → 1 ≤ j → j ≤ o.faces_b → HasRow o.pieces j) → All (λ (area : ℤ). pos 1 ≤ℤ area) (areas_of target_of o.faces_b (map row_of o.pieces))
areas_covered o covered k d below =
    let areas = areas_of target_of o.faces_b (map row_of o.pieces) in
    let size = size_of_areas o areas refl in
    let r = covered (k + 1) (omega arith) (omega (arith, below, size)) in
    let here = area_at o areas k (k + 1) d refl (omega (arith, below, size)) (omega arith) in
    subst (λ (x : ℤ). pos 1 ≤ℤ x) (sym here) (has_area o.pieces (k + 1) r.0 r.1 r.2 r.3 r.4)

-- where each target face has a row, the map of an overlap keeps what every map keeps
pub map_is_sound : (o : OverlapParts) → IsSoundOverlap o → ((j : ℕ) → 1 ≤ j → j ≤ o.faces_b → HasRow o.pieces j) → IsSoundMap (map_of o)
map_is_sound o sound covered = sound_map o o.faces_a o.faces_b (map row_of o.pieces) _ _ sound refl refl refl refl refl (areas_covered o covered)
