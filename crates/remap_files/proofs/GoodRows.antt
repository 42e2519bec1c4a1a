-- What holds of rows that are at no fault, and of the overlap that they make.
use Rattle.std.proofs.Common.{◌≡◌, ◌<◌, ◌≤◌, ◌+◌, ◌*◌, inl, inr, ℕ, zero, suc, ℤ, true, ◌&&◌, List, [], ◌∷◌, length, map, drop, All, sym, subst, ◌∙◌, arith, unsigned_abs, slice_index_or, nat_le, None}
use Rattle.std.specs.List.{list_all, range_with_len}
use Rattle.std.proofs.lemmas.Bool.Decides.{nat_tests}
use Rattle.std.proofs.lemmas.List.{length-map, length-drop, length-take-le}
use Rattle.std.proofs.lemmas.List.Elements.{All-map, All-cons, All-from_recursion}
use Rattle.std.proofs.lemmas.List.FromFn.{length-map-range_with_len, get_or-map-range_with_len}
use Rattle.clip.specs.declared.pieces.Piece.{Piece}
use Rattle.clip.specs.Overlaps.{IsBefore, IsRingNumber, IsFaceCount, IsSoundPiece, IsSoundOverlap}
use Rattle.clip.proofs.PieceOrder.{before_trans}
use Rattle.remap_files.specs.declared.vars.OverlapVars.{OverlapVars}
use Rattle.exodus_mesh.specs.Pairs.{is_within, at_row, exceeds, has_good_faces}
use Rattle.exodus_mesh.proofs.GoodPairs.{both_true, within, before_by, IsGoodPair, good_pair, some_row, before_last, same_or_less}
use Rattle.remap_files.specs.OverlapRows.{Columns, ring_begin, ring_len, ring_at, has_good_ring, is_good_row, piece_at, row_fault, overlap_at}
use Rattle.remap_files.specs.Rows.{IsGoodRing}
use Rattle.remap_files.proofs.RowFaults.{AreGood, all_are_good}
use Rattle.remap_files.proofs.Triples.{length_rows}

pub ring_numbers : (low high : ℕ) (zs : List ℤ) → list_all (is_within low high) zs ≡ true → All (λ z. (low ≤ unsigned_abs z) × (unsigned_abs z ≤ high)) zs
ring_numbers low high [] h = All-from_recursion (λ z. (low ≤ unsigned_abs z) × (unsigned_abs z ≤ high)) [] tt
ring_numbers low high (z ∷ zs) h =
    let both = both_true (is_within low high z) (list_all (is_within low high) zs) h in
    let here = within low high z both.0 in
    All-cons (λ z. (low ≤ unsigned_abs z) × (unsigned_abs z ≤ high)) z zs (here.0, here.1) (ring_numbers low high zs both.1)

pub good_ring : (ring_size ring_plane : List ℤ) (r : ℕ) → has_good_ring ring_size ring_plane r ≡ true → IsGoodRing ring_size ring_plane r
unfolding has_good_ring
good_ring ring_size ring_plane r h =
    let p = both_true (is_within 3 32 (at_row ring_size r) && nat_le (ring_begin ring_size r + ring_len ring_size r) (length ring_plane)) (list_all (is_within 1 32) (ring_at ring_size ring_plane r)) h in
    let q = both_true (is_within 3 32 (at_row ring_size r)) (nat_le (ring_begin ring_size r + ring_len ring_size r) (length ring_plane)) p.0 in
    let size = within 3 32 (at_row ring_size r) q.0 in
    let numbers = ring_numbers 1 32 (ring_at ring_size ring_plane r) p.1 in
    record {
      least_size = size.0;
      greatest_size = size.1;
      inside = grind (arith, nat_tests, q.1);
      least = λ i d below. (numbers i d below).0;
      greatest = λ i d below. (numbers i d below).1;
    }

pub row_ring : (v : OverlapVars) (c : Columns) (r : ℕ) → is_good_row v.faces_a v.faces_b c r ≡ true → IsGoodRing c.ring_size c.ring_plane r
row_ring v c r h = good_ring c.ring_size c.ring_plane r (both_true (has_good_faces v.faces_a v.faces_b c.source c.target r) (has_good_ring c.ring_size c.ring_plane r) h).1

row_pair : (v : OverlapVars) (c : Columns) (r : ℕ) → is_good_row v.faces_a v.faces_b c r ≡ true → IsGoodPair v.faces_a v.faces_b c.source c.target r
row_pair v c r h = good_pair v.faces_a v.faces_b c.source c.target r (both_true (has_good_faces v.faces_a v.faces_b c.source c.target r) (has_good_ring c.ring_size c.ring_plane r) h).0

-- the piece of each row comes before that of the next
next_before : (v : OverlapVars) (c : Columns) (j : ℕ) → is_good_row v.faces_a v.faces_b c j ≡ true → is_good_row v.faces_a v.faces_b c (suc j) ≡ true → IsBefore (piece_at c j) (piece_at c (suc j))
unfolding piece_at
next_before v c j h k =
    let p = row_pair v c j h in
    let q = row_pair v c (suc j) k in
    elim q.order [
      | inl none ↦ absurd (some_row j none)
      | inr after ↦
          before_by (at_row c.source j) (at_row c.target j) (at_row c.source (suc j)) (at_row c.target (suc j)) p.source_is p.target_is q.source_is q.target_is
          (subst (λ i. exceeds (at_row c.source i) (at_row c.target i) (at_row c.source (suc j)) (at_row c.target (suc j)) ≡ true) (before_last j) after)
    ]

rows_before : (v : OverlapVars) (c : Columns) (n : ℕ) → AreGood v c n → (i j : ℕ) → i < j → j < n → IsBefore (piece_at c i) (piece_at c j)
rows_before v c n all i zero below last = absurd (omega (arith, below))
rows_before v c n all i (suc j) below last =
    let next = next_before v c j (all j (omega (arith, last))) (all (suc j) last) in
    elim (same_or_less i j below) [
      | inl less ↦ before_trans (piece_at c i) (piece_at c j) (piece_at c (suc j)) (rows_before v c n all i j less (omega (arith, last))) next
      | inr same ↦ subst (λ k. IsBefore (piece_at c k) (piece_at c (suc j))) (sym same) next
    ]

sound_row : (v : OverlapVars) (c : Columns) (r : ℕ) → is_good_row v.faces_a v.faces_b c r ≡ true → IsSoundPiece v.faces_a v.faces_b (piece_at c r)
unfolding piece_at
sound_row v c r h =
    let p = row_pair v c r h in
    let g = row_ring v c r h in
    let n = ring_len c.ring_size r in
    let at = ring_begin c.ring_size r in
    let ring = ring_at c.ring_size c.ring_plane r in
    let long : length ring ≡ n = length-take-le n (drop at c.ring_plane) (omega (arith, g.inside, length-drop at c.ring_plane)) in
    let size : length (map unsigned_abs ring) ≡ n = length-map ring unsigned_abs ∙ long in
    record {
      source = (p.least_source, p.greatest_source);
      target = (p.least_target, p.greatest_target);
      least_size = omega (arith, size, g.least_size);
      greatest_size = omega (arith, size, g.greatest_size);
      numbers = All-map IsRingNumber unsigned_abs ring (λ i d below. (g.least i d below, g.greatest i d below));
      corners = length_rows n 3 (drop (3 * at) c.corner) ∙ sym size;
    }

-- rows that are at no fault make an overlap
pub sound_rows : (v : OverlapVars) (c : Columns) → IsFaceCount v.faces_a → IsFaceCount v.faces_b → v.pieces ≤ 8388608 → row_fault v c ≡ None → IsSoundOverlap (overlap_at v c)
sound_rows v c faces_a faces_b few none =
    let n = v.pieces in
    let good = all_are_good v c none in
    let long : length (map (piece_at c) (range_with_len 0 n)) ≡ n = length-map-range_with_len (piece_at c) 0 n in
    let at : (i : ℕ) (d : Piece) → i < length (map (piece_at c) (range_with_len 0 n)) → slice_index_or (map (piece_at c) (range_with_len 0 n)) i d ≡ piece_at c i =
    λ i d below. get_or-map-range_with_len (piece_at c) 0 n i i d (inside i (length (map (piece_at c) (range_with_len 0 n))) n below long) (from_none i) in
    record {
      source_faces = faces_a;
      target_faces = faces_b;
      count = omega (arith, long, few);
      ascending = λ i j d below last.
          subst (λ (p : Piece). IsBefore p (slice_index_or (map (piece_at c) (range_with_len 0 n)) j d)) (sym (at i d (less i j (length (map (piece_at c) (range_with_len 0 n))) below last)))
          (subst (λ (q : Piece). IsBefore (piece_at c i) q) (sym (at j d last)) (rows_before v c n good i j below (inside j (length (map (piece_at c) (range_with_len 0 n))) n last long)));
      pieces = λ i d below. subst (λ (p : Piece). IsSoundPiece v.faces_a v.faces_b p) (sym (at i d below)) (sound_row v c i (good i (inside i (length (map (piece_at c) (range_with_len 0 n))) n below long)));
    }
  where
    inside : (i k n : ℕ) → i < k → k ≡ n → i < n
    inside i k n h e = omega (arith, h, e)

    less : (i j k : ℕ) → i < j → j < k → i < k
    less i j k h l = omega (arith, h, l)

    from_none : (i : ℕ) → 0 + i ≡ i
    from_none i = omega arith
