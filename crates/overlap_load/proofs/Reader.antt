-- Overlap files that are read piece by piece.
use Rattle.std.proofs.Common.{◌≡◌, ◌∙◌, ◌<◌, ◌≤◌, ◌+◌, ◌-◌, ◌*◌, ℕ, zero, suc, ℤ, List, [], ◌∷◌, ◌++◌, map, take, drop, None, slice_range, unsigned_abs, refl, ap, ap₂, sym, arith}
use Rattle.std.specs.List.{range_with_len, sum_by}
use Rattle.std.proofs.lemmas.List.{take-take, drop-take, drop-drop}
use Rattle.std.proofs.lemmas.List.Sums.{sum_by-take-drop}
use Rattle.std.proofs.lemmas.List.FromFn.{map-range_with_len_more}
use Rattle.clip.specs.declared.pieces.Piece.{Piece}
use Rattle.exodus_mesh.specs.MeshValues.{rows_of}
use Rattle.remap_files.specs.declared.vars.OverlapVars.{OverlapVars}
use Rattle.remap_files.specs.OverlapRows.{Columns, ring_begin, ring_len, piece_at, row_fault}
use Rattle.remap_files.specs.Rows.{HasRowLens, IsGoodRing, with_corners, piece_with}
use Rattle.remap_files.proofs.RowFaults.{all_are_good, piece_is, next_begin, first_begin}
use Rattle.remap_files.proofs.GoodRows.{row_ring}

-- Rows of corners.

rows_front : (n k : ℕ) (l : List ℤ) → rows_of n 3 (take (3 * n + k) l) ≡ rows_of n 3 l
rows_front zero k l = refl
rows_front (suc n) k l =
    let size : 3 * suc n + k ≡ 3 + (3 * n + k) = omega arith in
    ap (λ m. rows_of (suc n) 3 (take m l)) size
    ∙ ap₂ (λ (c : List ℤ) (r : List (List ℤ)). c ∷ r) (take-take 3 (3 + (3 * n + k)) l (omega arith)) (ap (rows_of n 3) (drop-take 3 (3 * n + k) l) ∙ rows_front n k (drop 3 l))

-- the corners of a row are among the first ones, up to its end
rows_at : (begin len n : ℕ) (l : List ℤ) → 3 * (begin + len) ≤ n → rows_of len 3 (drop (3 * begin) (take n l)) ≡ rows_of len 3 (drop (3 * begin) l)
rows_at begin len n l le =
    let more = n - 3 * (begin + len) in
    let size : n ≡ 3 * begin + (3 * len + more) = omega arith in
    ap (λ m. rows_of len 3 (drop (3 * begin) (take m l))) size ∙ ap (rows_of len 3) (drop-take (3 * begin) (3 * len + more) l) ∙ rows_front len more (drop (3 * begin) l)

same_piece_with : (c : Columns) (k : ℕ) (a b : List ℤ) → rows_of (ring_len c.ring_size k) 3 a ≡ rows_of (ring_len c.ring_size k) 3 b → piece_with c k a ≡ piece_with c k b
same_piece_with c k a b h = ap (λ (corners : List (List ℤ)). let p : Piece = record (piece_with c k b) { corners = corners } in p) h

-- a piece depends on the corners up to the end of its row alone
piece_front : (c : Columns) (a b : List ℤ) (k n : ℕ) → 3 * (ring_begin c.ring_size k + ring_len c.ring_size k) ≤ n → take n a ≡ take n b → piece_at (with_corners c a) k ≡ piece_at (with_corners c b) k
piece_front c a b k n le same =
    let at = ring_begin c.ring_size k in
    let len = ring_len c.ring_size k in
    piece_is c a k
    ∙ same_piece_with c k (drop (3 * at) a) (drop (3 * at) b) (sym (rows_at at len n a le) ∙ ap (λ (l : List ℤ). rows_of len 3 (drop (3 * at) l)) same ∙ rows_at at len n b le)
    ∙ sym (piece_is c b k)

map_same : (f g : ℕ → Piece) (n : ℕ) → ((k : ℕ) → k < n → f k ≡ g k) → map f (range_with_len 0 n) ≡ map g (range_with_len 0 n)
map_same f g zero h = refl
map_same f g (suc n) h =
    let one : suc n ≡ n + 1 = omega arith in
    ap (λ m. map f (range_with_len 0 m)) one
    ∙ map-range_with_len_more f 0 n n (omega arith)
    ∙ ap₂ (λ (l : List Piece) (p : Piece). l ++ p ∷ []) (map_same f g n (λ k lt. h k (omega (arith, lt)))) (h n (omega arith))
    ∙ sym (map-range_with_len_more g 0 n n (omega arith))
    ∙ ap (λ m. map g (range_with_len 0 m)) (sym one)

-- Where rings begin.

pub begin_grows : (sizes : List ℤ) (i j : ℕ) → i ≤ j → ring_begin sizes i ≤ ring_begin sizes j
unfolding ring_begin
begin_grows sizes i j le =
    omega (arith, sum_by-take-drop unsigned_abs (take j sizes) i, ap (sum_by unsigned_abs) (take-take i j sizes le))

pub one_more_ring : (v : OverlapVars) (c : Columns) (k : ℕ) → HasRowLens v c → k < v.pieces → ring_begin c.ring_size (k + 1) ≡ ring_begin c.ring_size k + ring_len c.ring_size k
one_more_ring v c k lens below = next_begin c.ring_size k (omega (arith, lens.ring_size, below))

pub ring_of_row : (v : OverlapVars) (c : Columns) (k : ℕ) → row_fault v c ≡ None → k < v.pieces → IsGoodRing c.ring_size c.ring_plane k
ring_of_row v c k none below = row_ring v c k (all_are_good v c none k below)

pub begin_small : (v : OverlapVars) (c : Columns) (k : ℕ) → HasRowLens v c → row_fault v c ≡ None → k ≤ v.pieces → ring_begin c.ring_size k ≤ 32 * k
begin_small v c zero lens none le = omega (arith, first_begin c.ring_size)
begin_small v c (suc k) lens none le =
    let at : suc k ≡ k + 1 = omega arith in
    omega (arith, ap (ring_begin c.ring_size) at, one_more_ring v c k lens (omega (arith, le)), begin_small v c k lens none (omega (arith, le)), (ring_of_row v c k none (omega (arith, le))).greatest_size)

pub begin_inside : (v : OverlapVars) (c : Columns) (k : ℕ) → HasRowLens v c → row_fault v c ≡ None → k ≤ v.pieces → ring_begin c.ring_size k ≤ v.corners
begin_inside v c zero lens none le = omega (arith, first_begin c.ring_size)
begin_inside v c (suc k) lens none le =
    let at : suc k ≡ k + 1 = omega arith in
    omega (arith, ap (ring_begin c.ring_size) at, one_more_ring v c k lens (omega (arith, le)), (ring_of_row v c k none (omega (arith, le))).inside, lens.ring_plane)

-- the pieces of rows depend on the corners up to the end of the last of them alone
pub pieces_front : (v : OverlapVars) (c : Columns) (a b : List ℤ) (n m : ℕ) → HasRowLens v c → n ≤ v.pieces → 3 * ring_begin c.ring_size n ≤ m → take m a ≡ take m b
    → map (piece_at (with_corners c a)) (range_with_len 0 n) ≡ map (piece_at (with_corners c b)) (range_with_len 0 n)
pieces_front v c a b n m lens le room same =
    map_same (piece_at (with_corners c a)) (piece_at (with_corners c b)) n (λ k lt.
    piece_front c a b k m (omega (arith, room, one_more_ring v c k lens (omega (arith, lt, le)), begin_grows c.ring_size (k + 1) n (omega (arith, lt)))) same)

-- the piece of a row whose corners stand in a part of all corners
pub piece_of_part : (v : OverlapVars) (c : Columns) (corner part : List ℤ) (k first end : ℕ) → HasRowLens v c → k < end → end ≤ v.pieces → first ≤ ring_begin c.ring_size k → part ≡ slice_range corner (3 * first) (3 * ring_begin c.ring_size end)
    → piece_with c k (drop (3 * (ring_begin c.ring_size k - first)) part) ≡ piece_at (with_corners c corner) k
piece_of_part v c corner part k first end lens below le before is =
    let at = ring_begin c.ring_size k in
    let len = ring_len c.ring_size k in
    let last = ring_begin c.ring_size end in
    let skip = 3 * (at - first) in
    let left = 3 * last - 3 * at in
    let room : at + len ≤ last = omega (arith, one_more_ring v c k lens (omega (arith, below, le)), begin_grows c.ring_size (k + 1) end (omega (arith, below))) in
    let size : 3 * last - 3 * first ≡ skip + left = omega (arith, room, before) in
    let here : 3 * first + skip ≡ 3 * at = omega (arith, before) in
    let more : left ≡ 3 * len + (left - 3 * len) = omega (arith, room) in
    same_piece_with c k (drop skip part) (drop (3 * at) corner) (
    ap (λ (l : List ℤ). rows_of len 3 (drop skip l)) is
    ∙ ap (λ n. rows_of len 3 (drop skip (take n (drop (3 * first) corner)))) size
    ∙ ap (rows_of len 3) (drop-take skip left (drop (3 * first) corner))
    ∙ ap (λ n. rows_of len 3 (take n (drop skip (drop (3 * first) corner)))) more
    ∙ rows_front len (left - 3 * len) (drop skip (drop (3 * first) corner))
    ∙ ap (rows_of len 3) (drop-drop skip (3 * first) corner)
    ∙ ap (λ n. rows_of len 3 (drop n corner)) here)
    ∙ sym (piece_is c corner k)
