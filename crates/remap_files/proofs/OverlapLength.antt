-- How long the file of an overlap is, and that its document is well formed.
use Rattle.std.proofs.Common.{◌≡◌, ◌≢◌, ◌+◌, ◌*◌, ◌≤◌, ◌<◌, ◌^◌, ◌==◌, ℕ, ℤ, zero, suc, false, cond, pos, List, [], ◌∷◌, length, drop, refl, ap, ap₂, sym, ◌∙◌, if◌then◌else◌, arith, lit<, lit≤, length-append, slice_index_or, slice_index, All, sum_by, codes}
use Rattle.std.proofs.lemmas.List.Sums.{sum_by-cons}
use Rattle.std.proofs.lemmas.List.{length-map}
use Rattle.std.proofs.lemmas.List.Elements.{All-from_recursion, recursion_from_All}
use Rattle.std.specs.List.{flat_map, AllByRecursion, count_by}
use Rattle.clip.specs.declared.pieces.Piece.{Piece}
use Rattle.clip.specs.Overlaps.{OverlapParts, HasSmallNumbers, IsSoundPiece, IsSoundOverlap}
use Rattle.nc_write.specs.declared.DocVar.{DocVar}
use Rattle.nc_write.specs.declared.NcDoc.{NcDoc}
use Rattle.nc_write.specs.declared.Values.{Values}
use Rattle.nc_write.specs.declared.Values.TheVariants.{Byte, Int}
use Rattle.nc_write.specs.Kinds.{size_of, value}
use Rattle.nc_write.specs.Extents.{lens_of, rounded, product_of, has_records}
use Rattle.nc_write.specs.Widths.{width, number_bytes, code}
use Rattle.nc_write.specs.File.{version_of, kind_of, numbers_of, is_record, fixed_data, header_len, dimension, attribute, name_bytes, variable, file_of}
use Rattle.nc_write.specs.Form.{IsWellFormed, full_lens}
use Rattle.nc_write.proofs.PartLengths.{header_len_is}
use Rattle.nc_write.proofs.Places.{length_fixed_data, length_file_of_fixed}
use Rattle.exodus_mesh.proofs.DocLengths.{width_is, var_length, ints_length, not_zero, not_none, full_len}
use Rattle.clip.specs.Columns.{source_column, target_column, ring_size_column, ring_numbers, ring_plane_column, triple_of, corner_numbers, corner_column}
use Rattle.exodus_mesh.specs.Columns.{variable_of}
use Rattle.exodus_mesh.proofs.DocSums.{sum_of_five}
use Rattle.remap_files.specs.OverlapDocument.{HasRingSize, corner_count_of, overlap_atts, overlap_dims, overlap_vars, overlap_document, overlap_file_len}

-- Pieces.

-- the numbers of a sound piece of two meshes that are not too large
pub small_numbers : (faces_a faces_b : ℕ) (p : Piece) → faces_a ≤ 1048576 → faces_b ≤ 1048576 → IsSoundPiece faces_a faces_b p → HasSmallNumbers p
small_numbers faces_a faces_b p few_a few_b h = record {
  source = omega (arith, few_a, h.source.1);
  target = omega (arith, few_b, h.target.1);
  greatest_size = h.greatest_size;
  numbers = h.numbers;
}

pub all_small : (o : OverlapParts) → IsSoundOverlap o → All HasSmallNumbers o.pieces
all_small o h = λ i d below. small_numbers o.faces_a o.faces_b (slice_index_or o.pieces i d) h.source_faces.1 h.target_faces.1 (h.pieces i d below)

pub ring_sizes : (o : OverlapParts) → IsSoundOverlap o → All HasRingSize o.pieces
ring_sizes o h = λ i d below. let p = h.pieces i d below in (p.least_size, p.greatest_size)

-- each piece has 3 to 32 corners
pub least_count : (pieces : List Piece) → AllByRecursion HasRingSize pieces → 3 * length pieces ≤ corner_count_of pieces
least_count [] h = omega arith
least_count (p ∷ ps) h = omega (arith, h.0.0, least_count ps h.1, sum_by-cons (λ (q : Piece). length q.ring.items) p ps)

pub greatest_count : (pieces : List Piece) → AllByRecursion HasRingSize pieces → corner_count_of pieces ≤ 32 * length pieces
greatest_count [] h = omega arith
greatest_count (p ∷ ps) h = omega (arith, h.0.1, greatest_count ps h.1, sum_by-cons (λ (q : Piece). length q.ring.items) p ps)

pub length_planes : (pieces : List Piece) → length (ring_plane_column pieces) ≡ corner_count_of pieces
length_planes [] = refl
length_planes (p ∷ ps) =
    omega (arith, length-append (ring_numbers p) (ring_plane_column ps), length-map p.ring.items (λ n. pos n), length_planes ps, sum_by-cons (λ (q : Piece). length q.ring.items) p ps)

length_triples : (corners : List (List ℤ)) → length (flat_map triple_of corners) ≡ 3 * length corners
length_triples [] = refl
length_triples (c ∷ cs) = omega (arith, length-append (triple_of c) (flat_map triple_of cs), length_triples cs)

-- there are as many corners as places in a ring
abbrev pub HasItsCorners : Piece → Type 0
HasItsCorners p = length p.corners ≡ length p.ring.items

pub length_corners : (pieces : List Piece) → AllByRecursion HasItsCorners pieces → length (corner_column pieces) ≡ 3 * corner_count_of pieces
length_corners [] h = refl
length_corners (p ∷ ps) h =
    omega (arith, h.0, length-append (corner_numbers p) (corner_column ps), length_triples p.corners, length_corners ps h.1, sum_by-cons (λ (q : Piece). length q.ring.items) p ps)

-- The header.

dims_length : (pieces corners : ℕ) → length (flat_map (dimension 2) (overlap_dims pieces corners)) ≡ 56
unfolding dimension name_bytes number_bytes width
dims_length pieces corners = refl

atts_length : (faces_a faces_b pieces : ℕ) → length (flat_map (attribute 2) (overlap_atts faces_a faces_b pieces)) ≡ 72
unfolding attribute name_bytes number_bytes width value code
atts_length faces_a faces_b pieces = refl

-- the names of the five variables, each filled up to a multiple of 4 bytes
name_lengths : (length (name_bytes 2 (codes "source")) ≡ 12) × (length (name_bytes 2 (codes "target")) ≡ 12) × (length (name_bytes 2 (codes "ring_size")) ≡ 16) × (length (name_bytes 2 (codes "ring_plane")) ≡ 16) × (length (name_bytes 2 (codes "corner")) ≡ 12)
unfolding name_bytes number_bytes width
name_lengths = (refl, refl, refl, refl, refl)

-- the header of a document with these dimensions, attributes and variables
parts_length : (doc : NcDoc) (pieces : List Piece) (faces_a faces_b : ℕ) → version_of doc ≡ 2 → doc.dims ≡ overlap_dims (length pieces) (corner_count_of pieces) → doc.atts ≡ overlap_atts faces_a faces_b (length pieces) → doc.vars ≡ overlap_vars pieces → header_len doc ≡ 392
parts_length doc pieces faces_a faces_b version dims atts vars =
    let wide : width (version_of doc) ≡ 4 = ap width version ∙ width_is in
    let dims_are : length (flat_map (dimension (version_of doc)) doc.dims) ≡ 56 = ap₂ (λ v l. length (flat_map (dimension v) l)) version dims ∙ dims_length (length pieces) (corner_count_of pieces) in
    let atts_are : length (flat_map (attribute (version_of doc)) doc.atts) ≡ 72 = ap₂ (λ v l. length (flat_map (attribute v) l)) version atts ∙ atts_length faces_a faces_b (length pieces) in
    let source = variable_of (codes "source") (0 ∷ []) (Int (source_column pieces)) in
    let target = variable_of (codes "target") (0 ∷ []) (Int (target_column pieces)) in
    let size = variable_of (codes "ring_size") (0 ∷ []) (Byte (ring_size_column pieces)) in
    let plane = variable_of (codes "ring_plane") (1 ∷ []) (Byte (ring_plane_column pieces)) in
    let corner = variable_of (codes "corner") (1 ∷ 2 ∷ []) (Int (corner_column pieces)) in
    let len : DocVar → ℕ = λ v. length (variable doc 0 v) in
    let vars_are : sum_by len doc.vars ≡ len source + len target + len size + len plane + len corner = ap (λ l. sum_by len l) vars ∙ sum_of_five len source target size plane corner in
    omega (
      arith,
      header_len_is doc,
      wide,
      dims_are,
      atts_are,
      vars_are,
      var_length doc source 12 1 version name_lengths.0 refl,
      var_length doc target 12 1 version name_lengths.1 refl,
      var_length doc size 16 1 version name_lengths.2 refl,
      var_length doc plane 16 1 version name_lengths.3 refl,
      var_length doc corner 12 2 version name_lengths.4 refl,
    )

-- an overlap by its parts
abbrev pub parts_of : ℕ → ℕ → List Piece → OverlapParts
parts_of faces_a faces_b pieces = record { faces_a = faces_a; faces_b = faces_b; pieces = pieces }

version_is : (faces_a faces_b : ℕ) (p : Piece) (ps : List Piece) → version_of (overlap_document (parts_of faces_a faces_b (p ∷ ps))) ≡ 2
unfolding version_of overlap_document
version_is faces_a faces_b p ps = refl

header_is : (faces_a faces_b : ℕ) (p : Piece) (ps : List Piece) → header_len (overlap_document (parts_of faces_a faces_b (p ∷ ps))) ≡ 392
unfolding overlap_document
header_is faces_a faces_b p ps = parts_length (overlap_document (parts_of faces_a faces_b (p ∷ ps))) (p ∷ ps) faces_a faces_b (version_is faces_a faces_b p ps) refl refl refl

-- The data.

-- no file of an overlap is longer than this
len_below : (pieces corners : ℕ) → pieces ≤ 8388608 → corners ≤ 268435456 → overlap_file_len pieces corners ≤ 3565158792
len_below zero corners few most = omega arith
len_below (suc n) corners few most = let b : (suc n == 0) ≡ false = not_zero (suc n) (omega arith) in rw b (omega (arith, few, most))

bytes_length : (doc : NcDoc) (v : DocVar) (zs : List ℤ) (n : ℕ) → is_record doc v ≡ false → v.values ≡ Byte zs → length zs ≡ n → length (fixed_data doc v) ≡ rounded n
bytes_length doc v zs n fixed values count =
    let one : 1 * length zs ≡ n = omega (arith, count) in
    length_fixed_data doc v
    ∙ ap (λ b. cond b 0 (rounded (size_of (kind_of v.values) * length (numbers_of v.values)))) fixed
    ∙ ap (λ vs. rounded (size_of (kind_of vs) * length (numbers_of vs))) values
    ∙ ap (λ (k : ℕ). rounded k) one

along_pieces : (faces_a faces_b : ℕ) (p : Piece) (ps : List Piece) (text : List ℕ) (values : Values) → is_record (overlap_document (parts_of faces_a faces_b (p ∷ ps))) (variable_of text (0 ∷ []) values) ≡ false
unfolding overlap_document has_records
along_pieces faces_a faces_b p ps text values = not_zero (length (p ∷ ps)) (omega arith)

along_corners : (faces_a faces_b : ℕ) (p : Piece) (ps : List Piece) (more text : List ℕ) (values : Values) → 1 ≤ corner_count_of (p ∷ ps) → is_record (overlap_document (parts_of faces_a faces_b (p ∷ ps))) (variable_of text (1 ∷ more) values) ≡ false
unfolding overlap_document has_records
along_corners faces_a faces_b p ps more text values some = not_zero (corner_count_of (p ∷ ps)) some

no_records : (o : OverlapParts) → (overlap_document o).records ≡ 0
unfolding overlap_document
no_records o = refl

vars_are : (faces_a faces_b : ℕ) (p : Piece) (ps : List Piece) → (overlap_document (parts_of faces_a faces_b (p ∷ ps))).vars ≡ overlap_vars (p ∷ ps)
unfolding overlap_document
vars_are faces_a faces_b p ps = refl

length_some : (faces_a faces_b : ℕ) (p : Piece) (ps : List Piece) → AllByRecursion HasRingSize (p ∷ ps) → AllByRecursion HasItsCorners (p ∷ ps)
    → length (file_of (overlap_document (parts_of faces_a faces_b (p ∷ ps)))) ≡ overlap_file_len (length (p ∷ ps)) (corner_count_of (p ∷ ps))
length_some faces_a faces_b p ps sized matched =
    let pieces = p ∷ ps in
    let n = length pieces in
    let k = corner_count_of pieces in
    let doc = overlap_document (parts_of faces_a faces_b pieces) in
    let some : 1 ≤ k = omega (arith, least_count pieces sized) in
    let source = variable_of (codes "source") (0 ∷ []) (Int (source_column pieces)) in
    let target = variable_of (codes "target") (0 ∷ []) (Int (target_column pieces)) in
    let size = variable_of (codes "ring_size") (0 ∷ []) (Byte (ring_size_column pieces)) in
    let plane = variable_of (codes "ring_plane") (1 ∷ []) (Byte (ring_plane_column pieces)) in
    let corner = variable_of (codes "corner") (1 ∷ 2 ∷ []) (Int (corner_column pieces)) in
    let len : DocVar → ℕ = λ v. length (fixed_data doc v) in
    let all : sum_by len doc.vars ≡ len source + len target + len size + len plane + len corner = ap (λ l. sum_by len l) (vars_are faces_a faces_b p ps) ∙ sum_of_five len source target size plane corner in
    let sources : len source ≡ 4 * n = ints_length doc source (source_column pieces) n (along_pieces faces_a faces_b p ps (codes "source") (Int (source_column pieces))) refl (length-map pieces (λ (q : Piece). pos q.a)) in
    let targets : len target ≡ 4 * n = ints_length doc target (target_column pieces) n (along_pieces faces_a faces_b p ps (codes "target") (Int (target_column pieces))) refl (length-map pieces (λ (q : Piece). pos q.b)) in
    let sizes : len size ≡ rounded n = bytes_length doc size (ring_size_column pieces) n (along_pieces faces_a faces_b p ps (codes "ring_size") (Byte (ring_size_column pieces))) refl (length-map pieces (λ (q : Piece). pos (length q.ring.items))) in
    let planes : len plane ≡ rounded k = bytes_length doc plane (ring_plane_column pieces) k (along_corners faces_a faces_b p ps [] (codes "ring_plane") (Byte (ring_plane_column pieces)) some) refl (length_planes pieces) in
    let corners : len corner ≡ 4 * (3 * k) = ints_length doc corner (corner_column pieces) (3 * k) (along_corners faces_a faces_b p ps (2 ∷ []) (codes "corner") (Int (corner_column pieces)) some) refl (length_corners pieces matched) in
    let filled : (if n == 0 then 104 else 392 + 4 * n + 4 * n + rounded n + rounded k + 12 * k) ≡ 392 + 4 * n + 4 * n + rounded n + rounded k + 12 * k = ap (λ b. if b then 104 else 392 + 4 * n + 4 * n + rounded n + rounded k + 12 * k) (not_zero n (omega arith)) in
    let whole : length (file_of doc) ≡ 392 + 4 * n + 4 * n + rounded n + rounded k + 12 * k = sums n k _ _ _ _ _ _ _ _ _ _ (length_file_of_fixed doc (no_records (parts_of faces_a faces_b pieces))) (header_is faces_a faces_b p ps) all sources targets sizes planes corners in
    whole ∙ sym filled
  where
    sums : (n k header total file rn rk a b c d e : ℕ) → file ≡ header + total → header ≡ 392 → total ≡ a + b + c + d + e → a ≡ 4 * n → b ≡ 4 * n → c ≡ rn → d ≡ rk → e ≡ 4 * (3 * k) → file ≡ 392 + 4 * n + 4 * n + rn + rk + 12 * k
    sums n k header total file rn rk a b c d e h1 h2 h3 h4 h5 h6 h7 h8 = omega (arith, h1, h2, h3, h4, h5, h6, h7, h8)

length_none : (faces_a faces_b : ℕ) → length (file_of (overlap_document (parts_of faces_a faces_b []))) ≡ 104
unfolding overlap_document version_of
length_none faces_a faces_b =
    let doc = overlap_document (parts_of faces_a faces_b []) in
    omega (arith, length_file_of_fixed doc refl, header_len_is doc, width_is, atts_length faces_a faces_b 0)

-- the length of the file of an overlap
pub length_overlap_file : (o : OverlapParts) → IsSoundOverlap o → length (file_of (overlap_document o)) ≡ overlap_file_len (length o.pieces) (corner_count_of o.pieces)
length_overlap_file o h = by_pieces o.faces_a o.faces_b o.pieces (recursion_from_All HasRingSize o.pieces (ring_sizes o h)) (recursion_from_All HasItsCorners o.pieces (λ i d below. (h.pieces i d below).corners))
  where
    by_pieces : (faces_a faces_b : ℕ) (pieces : List Piece) → AllByRecursion HasRingSize pieces → AllByRecursion HasItsCorners pieces → length (file_of (overlap_document (parts_of faces_a faces_b pieces))) ≡ overlap_file_len (length pieces) (corner_count_of pieces)
    by_pieces faces_a faces_b [] sized matched = length_none faces_a faces_b
    by_pieces faces_a faces_b (p ∷ ps) sized matched = length_some faces_a faces_b p ps sized matched

-- The rules of a document.

one_record_dim : (pieces corners : ℕ) → 1 ≤ pieces → 1 ≤ corners → count_by (λ d. d.len == 0) (overlap_dims pieces corners) ≤ 1
one_record_dim pieces corners some_piece some_corner = rw (not_zero pieces some_piece, not_zero corners some_corner) (omega arith)

-- as many values as pieces, as places of rings, and three for each of these
abbrev FillsDims : NcDoc → DocVar → Type 0
FillsDims doc v = length (numbers_of v.values) ≡ product_of (full_lens doc) v.dims

values_fill : (faces_a faces_b : ℕ) (p : Piece) (ps : List Piece) → AllByRecursion HasItsCorners (p ∷ ps) → AllByRecursion (FillsDims (overlap_document (parts_of faces_a faces_b (p ∷ ps)))) (overlap_vars (p ∷ ps))
unfolding overlap_document product_of
values_fill faces_a faces_b p ps matched =
    let pieces = p ∷ ps in
    let n = length pieces in
    let k = corner_count_of pieces in
    let along : n ≡ (if n == 0 then 0 else n) * 1 = sym (omega (arith, full_len n)) in
    let round : k ≡ (if k == 0 then 0 else k) * 1 = sym (omega (arith, full_len k)) in
    let thrice : 3 * k ≡ (if k == 0 then 0 else k) * 3 = omega (arith, full_len k) in (
      length-map pieces (λ (q : Piece). pos q.a) ∙ along,
      (
        length-map pieces (λ (q : Piece). pos q.b) ∙ along,
        (
          length-map pieces (λ (q : Piece). pos (length q.ring.items)) ∙ along,
          (
            length_planes pieces ∙ round,
            (length_corners pieces matched ∙ thrice, tt),
          ),
        ),
      ),
    )

some_form : (faces_a faces_b : ℕ) (p : Piece) (ps : List Piece) → length (p ∷ ps) ≤ 8388608 → AllByRecursion HasRingSize (p ∷ ps) → AllByRecursion HasItsCorners (p ∷ ps) → IsWellFormed (overlap_document (parts_of faces_a faces_b (p ∷ ps)))
unfolding overlap_document
some_form faces_a faces_b p ps few sized matched =
    let pieces = p ∷ ps in
    let n = length pieces in
    let k = corner_count_of pieces in
    let doc = overlap_document (parts_of faces_a faces_b pieces) in
    let some : 1 ≤ k = omega (arith, least_count pieces sized) in
    let most : k ≤ 268435456 = omega (arith, greatest_count pieces sized, few) in
    record {
      lens = All-from_recursion (λ d. d.len ≤ 4294967295) doc.dims (omega (arith, few), (omega (arith, most), (lit≤ tt, tt)));
      one_record_dim = one_record_dim n k (omega arith) some;
      ids = All-from_recursion (λ v. All (λ id. id < 3) v.dims) doc.vars (
        All-from_recursion (λ id. id < 3) (0 ∷ []) (lit< tt, tt),
        (
          All-from_recursion (λ id. id < 3) (0 ∷ []) (lit< tt, tt),
          (
            All-from_recursion (λ id. id < 3) (0 ∷ []) (lit< tt, tt),
            (
              All-from_recursion (λ id. id < 3) (1 ∷ []) (lit< tt, tt),
              (All-from_recursion (λ id. id < 3) (1 ∷ 2 ∷ []) (lit< tt, (lit< tt, tt)), tt),
            ),
          ),
        ),
      );
      record_dim_first = All-from_recursion (λ v. All (λ id. slice_index (lens_of doc.dims) id ≢ 0) (drop 1 v.dims)) doc.vars (
        All-from_recursion (λ id. slice_index (lens_of doc.dims) id ≢ 0) [] tt,
        (
          All-from_recursion (λ id. slice_index (lens_of doc.dims) id ≢ 0) [] tt,
          (
            All-from_recursion (λ id. slice_index (lens_of doc.dims) id ≢ 0) [] tt,
            (
              All-from_recursion (λ id. slice_index (lens_of doc.dims) id ≢ 0) [] tt,
              (All-from_recursion (λ id. slice_index (lens_of doc.dims) id ≢ 0) (2 ∷ []) (not_none 3 (lit≤ tt), tt), tt),
            ),
          ),
        ),
      );
      values = All-from_recursion (FillsDims doc) doc.vars (values_fill faces_a faces_b p ps matched);
      records = lit< tt;
      no_records = λ _. refl;
      short_lists = record {
        dims = lit< tt;
        dim_names = All-from_recursion (λ d. length d.name < 2 ^ 31) doc.dims (lit< tt, (lit< tt, (lit< tt, tt)));
        atts = lit< tt;
        att_names = All-from_recursion (λ a. length a.name < 2 ^ 31) doc.atts (lit< tt, (lit< tt, (lit< tt, tt)));
        vars = lit< tt;
        var_names = All-from_recursion (λ v. length v.name < 2 ^ 31) doc.vars (lit< tt, (lit< tt, (lit< tt, (lit< tt, (lit< tt, tt)))));
        ids = All-from_recursion (λ v. length v.dims < 2 ^ 31) doc.vars (lit< tt, (lit< tt, (lit< tt, (lit< tt, (lit< tt, tt)))));
      };
      file = short_file faces_a faces_b p ps few sized matched most;
    }
  where
    short_file : (faces_a faces_b : ℕ) (p : Piece) (ps : List Piece) → length (p ∷ ps) ≤ 8388608 → AllByRecursion HasRingSize (p ∷ ps) → AllByRecursion HasItsCorners (p ∷ ps) → corner_count_of (p ∷ ps) ≤ 268435456
        → length (file_of (overlap_document (parts_of faces_a faces_b (p ∷ ps)))) < 2 ^ 63
    short_file faces_a faces_b p ps few sized matched most = omega (arith, length_some faces_a faces_b p ps sized matched, len_below (length (p ∷ ps)) (corner_count_of (p ∷ ps)) few most)

none_form : (faces_a faces_b : ℕ) → IsWellFormed (overlap_document (parts_of faces_a faces_b []))
unfolding overlap_document
none_form faces_a faces_b =
    let doc = overlap_document (parts_of faces_a faces_b []) in
    record {
      lens = All-from_recursion (λ d. d.len ≤ 4294967295) doc.dims tt;
      one_record_dim = lit≤ tt;
      ids = All-from_recursion (λ v. All (λ id. id < 0) v.dims) doc.vars tt;
      record_dim_first = All-from_recursion (λ v. All (λ id. slice_index (lens_of doc.dims) id ≢ 0) (drop 1 v.dims)) doc.vars tt;
      values = All-from_recursion (FillsDims doc) doc.vars tt;
      records = lit< tt;
      no_records = λ _. refl;
      short_lists = record {
        dims = lit< tt;
        dim_names = All-from_recursion (λ d. length d.name < 2 ^ 31) doc.dims tt;
        atts = lit< tt;
        att_names = All-from_recursion (λ a. length a.name < 2 ^ 31) doc.atts (lit< tt, (lit< tt, (lit< tt, tt)));
        vars = lit< tt;
        var_names = All-from_recursion (λ v. length v.name < 2 ^ 31) doc.vars tt;
        ids = All-from_recursion (λ v. length v.dims < 2 ^ 31) doc.vars tt;
      };
      file = omega (arith, length_none faces_a faces_b);
    }

-- the document of an overlap is well formed
pub overlap_document_form : (o : OverlapParts) → IsSoundOverlap o → IsWellFormed (overlap_document o)
overlap_document_form o h = by_pieces o.faces_a o.faces_b o.pieces h.count (recursion_from_All HasRingSize o.pieces (ring_sizes o h)) (recursion_from_All HasItsCorners o.pieces (λ i d below. (h.pieces i d below).corners))
  where
    by_pieces : (faces_a faces_b : ℕ) (pieces : List Piece) → length pieces ≤ 8388608 → AllByRecursion HasRingSize pieces → AllByRecursion HasItsCorners pieces → IsWellFormed (overlap_document (parts_of faces_a faces_b pieces))
    by_pieces faces_a faces_b [] few sized matched = none_form faces_a faces_b
    by_pieces faces_a faces_b (p ∷ ps) few sized matched = some_form faces_a faces_b p ps few sized matched
