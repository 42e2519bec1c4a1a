-- The rows that are written of an overlap are its pieces again.
use Rattle.std.proofs.Common.{◌≡◌, ◌<◌, ◌≤◌, ◌+◌, ◌-◌, ◌*◌, inl, inr, ◌==◌, ℕ, zero, suc, ℤ, pos, true, int_lt, ◌&&◌, ◌||◌, List, [], ◌∷◌, ◌++◌, length, map, take, drop, All, AllPairs, None, refl, ap, ap₂, sym, subst, ◌∙◌, arith, unsigned_abs, slice_index_or, nat_le}
use Rattle.std.specs.Ordering.{int_eq}
use Rattle.std.specs.List.{flat_map, list_all, range_with_len, sum_by, AllByRecursion}
use Rattle.std.proofs.lemmas.Bool.Decides.{nat_tests, Decides-int_eq}
use Rattle.std.proofs.lemmas.Grind.{flat_map-append}
use Rattle.std.proofs.lemmas.List.{take-append-drop, drop_at, take_at, take_all, length-map, get_or-map, get_or-take, ext_get_or}
use Rattle.std.proofs.lemmas.List.Elements.{recursion_from_All}
use Rattle.std.proofs.lemmas.List.FromFn.{length-map-range_with_len, get_or-map-range_with_len}
use Rattle.std.proofs.lemmas.List.Sums.{sum_by-cons, sum_by-append}
use Rattle.std.proofs.Math.Seq.{drop-cons}
use Rattle.clip.specs.declared.pieces.Piece.{Piece}
use Rattle.clip.specs.Overlaps.{OverlapParts, IsBefore, IsRingNumber, IsSoundPiece, IsSoundOverlap}
use Rattle.exodus_mesh.specs.MeshValues.{rows_of}
use Rattle.remap_files.specs.declared.vars.OverlapVars.{OverlapVars}
use Rattle.clip.specs.Columns.{source_column, target_column, ring_size_column, ring_numbers, ring_plane_column, triple_of, corner_numbers, corner_column}
use Rattle.remap_files.specs.OverlapDocument.{corner_count_of, IsCorner, HasCorners}
use Rattle.exodus_mesh.specs.Pairs.{is_within, at_row, exceeds, has_good_faces}
use Rattle.exodus_mesh.proofs.GoodPairs.{and_true, or_true, within_true, less_true}
use Rattle.remap_files.specs.OverlapRows.{Columns, ring_begin, ring_len, ring_at, has_good_ring, piece_of, piece_at, row_fault}
use Rattle.exodus_mesh.proofs.NodesAgain.{triple_is}
use Rattle.remap_files.proofs.OverlapLength.{length_planes, length_corners, HasItsCorners}
use Rattle.remap_files.proofs.RowFaults.{AreGood, no_fault}

-- the numbers that are written
abbrev pub written : List Piece → Columns
written pieces = record { source = source_column pieces; target = target_column pieces; ring_size = ring_size_column pieces; ring_plane = ring_plane_column pieces; corner = corner_column pieces }

abbrev any_piece : Piece
any_piece = record { a = 0; b = 0; ring = record { items = [] }; corners = [] }

-- the piece of row r
abbrev at : List Piece → ℕ → Piece
at pieces r = slice_index_or pieces r any_piece

-- Where a ring stands.

split : (pieces : List Piece) (r : ℕ) → r < length pieces → pieces ≡ take r pieces ++ at pieces r ∷ drop (suc r) pieces
split pieces r below = sym (take-append-drop r pieces) ∙ ap (λ l. take r pieces ++ l) (drop-cons pieces r any_piece below)

begin_is : (pieces : List Piece) (r : ℕ) → ring_begin (ring_size_column pieces) r ≡ corner_count_of (take r pieces)
unfolding ring_begin
begin_is [] zero = refl
begin_is [] (suc r) = refl
begin_is (p ∷ ps) zero = refl
begin_is (p ∷ ps) (suc r) =
    let rest : sum_by unsigned_abs (take r (ring_size_column ps)) ≡ corner_count_of (take r ps) = begin_is ps r in
    sum_by-cons unsigned_abs (pos (length p.ring.items)) (take r (ring_size_column ps)) ∙ ap (λ n. length p.ring.items + n) rest ∙ sym (sum_by-cons (λ (q : Piece). length q.ring.items) p (take r ps))

size_is : (pieces : List Piece) (r : ℕ) → r < length pieces → at_row (ring_size_column pieces) r ≡ pos (length (at pieces r).ring.items)
size_is pieces r below = get_or-map (λ (p : Piece). pos (length p.ring.items)) pieces r any_piece (pos 0) below

source_is : (pieces : List Piece) (r : ℕ) → r < length pieces → at_row (source_column pieces) r ≡ pos (at pieces r).a
source_is pieces r below = get_or-map (λ (p : Piece). pos p.a) pieces r any_piece (pos 0) below

target_is : (pieces : List Piece) (r : ℕ) → r < length pieces → at_row (target_column pieces) r ≡ pos (at pieces r).b
target_is pieces r below = get_or-map (λ (p : Piece). pos p.b) pieces r any_piece (pos 0) below

len_is : (pieces : List Piece) (r : ℕ) → r < length pieces → ring_len (ring_size_column pieces) r ≡ length (at pieces r).ring.items
len_is pieces r below = ap unsigned_abs (size_is pieces r below)

ring_again : (pieces : List Piece) (r : ℕ) → r < length pieces → ring_at (ring_size_column pieces) (ring_plane_column pieces) r ≡ ring_numbers (at pieces r)
ring_again pieces r below =
    let q = at pieces r in
    let front = take r pieces in
    let rest = ring_plane_column (drop (suc r) pieces) in
    let planes : ring_plane_column pieces ≡ ring_plane_column front ++ (ring_numbers q ++ rest) = ap ring_plane_column (split pieces r below) ∙ flat_map-append ring_numbers front (q ∷ drop (suc r) pieces) in
    let behind : drop (ring_begin (ring_size_column pieces) r) (ring_plane_column pieces) ≡ ring_numbers q ++ rest =
    ap (drop (ring_begin (ring_size_column pieces) r)) planes ∙ drop_at (ring_plane_column front) (ring_numbers q ++ rest) (ring_begin (ring_size_column pieces) r) (length_planes front ∙ sym (begin_is pieces r)) in
    ap (take (ring_len (ring_size_column pieces) r)) behind
    ∙ take_at (ring_numbers q) rest (ring_len (ring_size_column pieces) r) (length-map q.ring.items (λ n. pos n) ∙ sym (len_is pieces r below))

-- Corners.

triples_again : (cs : List (List ℤ)) (rest : List ℤ) → AllByRecursion (λ c. length c ≡ 3) cs → rows_of (length cs) 3 (flat_map triple_of cs ++ rest) ≡ cs
triples_again [] rest h = refl
triples_again (c ∷ cs) rest h = ap₂ (λ (x : List ℤ) (xs : List (List ℤ)). x ∷ xs) (triple_is c h.0) (triples_again cs rest h.1)

front_corners : (pieces : List Piece) (r : ℕ) → All HasItsCorners pieces → All HasItsCorners (take r pieces)
front_corners pieces r all i d below =
    let inside : i < r = omega (arith, below, length-take_le r pieces) in
    let there : i < length pieces = omega (arith, below, length-take_le_all r pieces) in
    subst HasItsCorners (sym (get_or-take r pieces i d inside)) (all i d there)
  where
    length-take_le : (k : ℕ) (l : List Piece) → length (take k l) ≤ k
    length-take_le zero l = omega arith
    length-take_le (suc k) [] = omega arith
    length-take_le (suc k) (x ∷ xs) = omega (arith, length-take_le k xs)

    length-take_le_all : (k : ℕ) (l : List Piece) → length (take k l) ≤ length l
    length-take_le_all zero l = omega arith
    length-take_le_all (suc k) [] = omega arith
    length-take_le_all (suc k) (x ∷ xs) = omega (arith, length-take_le_all k xs)

corners_again : (pieces : List Piece) (r : ℕ) → r < length pieces → All HasItsCorners pieces → All IsCorner (at pieces r).corners
    → rows_of (ring_len (ring_size_column pieces) r) 3 (drop (3 * ring_begin (ring_size_column pieces) r) (corner_column pieces)) ≡ (at pieces r).corners
corners_again pieces r below matched typed =
    let q = at pieces r in
    let front = take r pieces in
    let rest = corner_column (drop (suc r) pieces) in
    let begin = 3 * ring_begin (ring_size_column pieces) r in
    let corners : corner_column pieces ≡ corner_column front ++ (corner_numbers q ++ rest) = ap corner_column (split pieces r below) ∙ flat_map-append corner_numbers front (q ∷ drop (suc r) pieces) in
    let far : length (corner_column front) ≡ begin = length_corners front (recursion_from_All HasItsCorners front (front_corners pieces r matched)) ∙ ap (λ (n : ℕ). 3 * n) (sym (begin_is pieces r)) in
    let behind : drop begin (corner_column pieces) ≡ corner_numbers q ++ rest = ap (drop begin) corners ∙ drop_at (corner_column front) (corner_numbers q ++ rest) begin far in
    let many : ring_len (ring_size_column pieces) r ≡ length q.corners = len_is pieces r below ∙ sym (matched r any_piece below) in
    ap₂ (λ (n : ℕ) (l : List ℤ). rows_of n 3 l) many behind
    ∙ triples_again q.corners rest (recursion_from_All (λ c. length c ≡ 3) q.corners (λ i d lt. (typed i d lt).0))

numbers_again : (xs : List ℕ) → map unsigned_abs (map (λ n. pos n) xs) ≡ xs
numbers_again [] = refl
numbers_again (x ∷ xs) = ap (λ l. x ∷ l) (numbers_again xs)

piece_again : (pieces : List Piece) (r : ℕ) → r < length pieces → All HasItsCorners pieces → All IsCorner (at pieces r).corners → piece_at (written pieces) r ≡ at pieces r
unfolding piece_at
piece_again pieces r below matched typed =
    let q = at pieces r in
    let ring = ring_at (ring_size_column pieces) (ring_plane_column pieces) r in
    let corners = rows_of (ring_len (ring_size_column pieces) r) 3 (drop (3 * ring_begin (ring_size_column pieces) r) (corner_column pieces)) in
    ap (λ s. piece_of s (at_row (target_column pieces) r) ring corners) (source_is pieces r below)
    ∙ ap (λ t. piece_of (pos q.a) t ring corners) (target_is pieces r below)
    ∙ ap (λ l. piece_of (pos q.a) (pos q.b) l corners) (ring_again pieces r below)
    ∙ ap (λ k. piece_of (pos q.a) (pos q.b) (ring_numbers q) k) (corners_again pieces r below matched typed)
    ∙ ap (λ l. let p : Piece = record { a = q.a; b = q.b; ring = record { items = l }; corners = q.corners } in p) (numbers_again q.ring.items)

-- No row is at fault.

exceeds_true : (p q : Piece) → IsBefore p q → exceeds (pos p.a) (pos p.b) (pos q.a) (pos q.b) ≡ true
exceeds_true p q h =
    elim h [
      | inl less ↦ ap (λ b. b || (int_eq (pos p.a) (pos q.a) && int_lt (pos p.b) (pos q.b))) (less_true p.a q.a less)
      | inr same ↦
          or_true (int_lt (pos p.a) (pos q.a)) (int_eq (pos p.a) (pos q.a) && int_lt (pos p.b) (pos q.b))
          (and_true (int_eq (pos p.a) (pos q.a)) (int_lt (pos p.b) (pos q.b)) ((Decides-int_eq (pos p.a) (pos q.a)).1 (ap (λ n. pos n) same.0)) (less_true p.b q.b same.1))
    ]

order_again : (pieces : List Piece) (r : ℕ) → r < length pieces → AllPairs IsBefore pieces
    → (r == 0 || exceeds (at_row (source_column pieces) (r - 1)) (at_row (target_column pieces) (r - 1)) (at_row (source_column pieces) r) (at_row (target_column pieces) r)) ≡ true
order_again pieces zero below ascending = refl
order_again pieces (suc j) below ascending =
    let last : suc j - 1 ≡ j = omega arith in
    let there : j < length pieces = omega (arith, below) in
    let before : IsBefore (at pieces j) (at pieces (suc j)) = ascending j (suc j) any_piece (omega arith) below in
    or_true (suc j == 0) (exceeds (at_row (source_column pieces) (suc j - 1)) (at_row (target_column pieces) (suc j - 1)) (at_row (source_column pieces) (suc j)) (at_row (target_column pieces) (suc j)))
    (ap (λ i. exceeds (at_row (source_column pieces) i) (at_row (target_column pieces) i) (at_row (source_column pieces) (suc j)) (at_row (target_column pieces) (suc j))) last
    ∙ ap₂ (λ a b. exceeds a b (at_row (source_column pieces) (suc j)) (at_row (target_column pieces) (suc j))) (source_is pieces j there) (target_is pieces j there)
    ∙ ap₂ (λ c d. exceeds (pos (at pieces j).a) (pos (at pieces j).b) c d) (source_is pieces (suc j) below) (target_is pieces (suc j) below)
    ∙ exceeds_true (at pieces j) (at pieces (suc j)) before)

faces_again : (faces_a faces_b : ℕ) (pieces : List Piece) (r : ℕ) → r < length pieces → IsSoundPiece faces_a faces_b (at pieces r) → AllPairs IsBefore pieces → has_good_faces faces_a faces_b (source_column pieces) (target_column pieces) r ≡ true
unfolding has_good_faces
faces_again faces_a faces_b pieces r below sound ascending =
    let q = at pieces r in
    let source : is_within 1 faces_a (at_row (source_column pieces) r) ≡ true = ap (is_within 1 faces_a) (source_is pieces r below) ∙ within_true 1 faces_a q.a sound.source.0 sound.source.1 in
    let target : is_within 1 faces_b (at_row (target_column pieces) r) ≡ true = ap (is_within 1 faces_b) (target_is pieces r below) ∙ within_true 1 faces_b q.b sound.target.0 sound.target.1 in
    and_true _ _ (and_true _ _ source target) (order_again pieces r below ascending)

ring_numbers_true : (xs : List ℕ) → AllByRecursion IsRingNumber xs → list_all (is_within 1 32) (map (λ n. pos n) xs) ≡ true
ring_numbers_true [] h = refl
ring_numbers_true (x ∷ xs) h = and_true _ _ (within_true 1 32 x h.0.0 h.0.1) (ring_numbers_true xs h.1)

count_split : (pieces : List Piece) (r : ℕ) → r < length pieces → corner_count_of (take r pieces) + length (at pieces r).ring.items ≤ corner_count_of pieces
count_split pieces r below =
    let size : Piece → ℕ = λ p. length p.ring.items in
    omega (arith, ap (sum_by size) (split pieces r below), sum_by-append size (take r pieces) (at pieces r ∷ drop (suc r) pieces), sum_by-cons size (at pieces r) (drop (suc r) pieces))

ring_is_good : (faces_a faces_b : ℕ) (pieces : List Piece) (r : ℕ) → r < length pieces → IsSoundPiece faces_a faces_b (at pieces r) → has_good_ring (ring_size_column pieces) (ring_plane_column pieces) r ≡ true
unfolding has_good_ring
ring_is_good faces_a faces_b pieces r below sound =
    let q = at pieces r in
    let size : is_within 3 32 (at_row (ring_size_column pieces) r) ≡ true = ap (is_within 3 32) (size_is pieces r below) ∙ within_true 3 32 (length q.ring.items) sound.least_size sound.greatest_size in
    let inside : ring_begin (ring_size_column pieces) r + ring_len (ring_size_column pieces) r ≤ length (ring_plane_column pieces) = omega (arith, begin_is pieces r, len_is pieces r below, length_planes pieces, count_split pieces r below) in
    let fits : nat_le (ring_begin (ring_size_column pieces) r + ring_len (ring_size_column pieces) r) (length (ring_plane_column pieces)) ≡ true = grind (arith, nat_tests, inside) in
    let numbers : list_all (is_within 1 32) (ring_at (ring_size_column pieces) (ring_plane_column pieces) r) ≡ true = ap (list_all (is_within 1 32)) (ring_again pieces r below) ∙ ring_numbers_true q.ring.items (recursion_from_All IsRingNumber q.ring.items sound.numbers) in
    and_true _ _ (and_true _ _ size fits) numbers

-- an overlap by the counts of its document
abbrev pub vars_of : OverlapParts → OverlapVars
vars_of o = record { faces_a = o.faces_a; faces_b = o.faces_b; pieces = length o.pieces; corners = corner_count_of o.pieces; vars = 0 ∷ 1 ∷ 2 ∷ 3 ∷ 4 ∷ [] }

rows_are_good : (o : OverlapParts) → IsSoundOverlap o → AreGood (vars_of o) (written o.pieces) (length o.pieces)
rows_are_good o h r below =
    let sound = h.pieces r any_piece below in
    and_true _ _ (faces_again o.faces_a o.faces_b o.pieces r below sound h.ascending) (ring_is_good o.faces_a o.faces_b o.pieces r below sound)

pub rows_no_fault : (o : OverlapParts) → IsSoundOverlap o → row_fault (vars_of o) (written o.pieces) ≡ None
rows_no_fault o h =
    let whole : length (ring_plane_column o.pieces) ≤ ring_begin (ring_size_column o.pieces) (length o.pieces) =
    omega (arith, begin_is o.pieces (length o.pieces), ap corner_count_of (take_all (length o.pieces) o.pieces (omega arith)), length_planes o.pieces) in
    no_fault (vars_of o) (written o.pieces) (rows_are_good o h) whole

pub pieces_again : (o : OverlapParts) → IsSoundOverlap o → HasCorners o → map (piece_at (written o.pieces)) (range_with_len 0 (length o.pieces)) ≡ o.pieces
pieces_again o h typed =
    let pieces = o.pieces in
    let n = length pieces in
    let made = map (piece_at (written pieces)) (range_with_len 0 n) in
    let long : length made ≡ n = length-map-range_with_len (piece_at (written pieces)) 0 n in
    let matched : All HasItsCorners pieces = λ i d below. (h.pieces i d below).corners in
    ext_get_or any_piece made pieces long
    (λ r below. let here : r < n = omega (arith, long, below) in
    get_or-map-range_with_len (piece_at (written pieces)) 0 n r r any_piece here (omega arith) ∙ piece_again pieces r here matched (typed r any_piece here))
