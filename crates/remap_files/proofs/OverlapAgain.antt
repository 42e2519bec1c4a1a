-- An overlap is read again from the file of its document.
use Rattle.std.proofs.Common.{◌≡◌, ◌==◌, ◌≤◌, ◌<◌, ◌^◌, ℕ, ℤ, pos, true, false, List, [], ◌∷◌, length, map, All, Some, Ok, FitsSigned, refl, ap, ap₂, subst, sym, ◌∙◌, arith, slice_index_or}
use Rattle.std.specs.Prelude.{codes}
use Rattle.std.specs.List.{flat_map, AllByRecursion}
use Rattle.std.specs.Int.{w8, w32}
use Rattle.std.proofs.lemmas.Int.{ints, fits_signed_from_abs}
use Rattle.std.proofs.lemmas.Bool.Decides.{nat_tests}
use Rattle.std.proofs.lemmas.List.Elements.{All-from_recursion, recursion_from_All, All-append, All-map, All-nil}
use Rattle.clip.specs.declared.pieces.Piece.{Piece}
use Rattle.clip.specs.Overlaps.{OverlapParts, IsRingNumber, IsSoundOverlap}
use Rattle.nc_write.specs.declared.NcKind.TheVariants as kinds
use Rattle.nc_write.specs.Kinds.{value}
use Rattle.nc_write.specs.File.{file_of}
use Rattle.nc_format.specs.declared.NcFile.{NcFile}
use Rattle.nc_format.specs.Placing.{placed}
use Rattle.nc_format.specs.Header.{IsHeader}
use Rattle.nc_format.specs.Numbers.{number_in, numbers_in, att_named}
use Rattle.nc_format.specs.Written.{att_of, header_of, HasTypedValues}
use Rattle.nc_format.proofs.Whole.{one_header}
use Rattle.nc_format.proofs.Inside.{doc_header}
use Rattle.nc_format.proofs.ReadBack.{numbers_back}
use Rattle.nc_format.proofs.Gathered.{doc_values}
use Rattle.exodus_mesh.specs.declared.kinds.NumberKind.TheVariants.{Int}
use Rattle.exodus_mesh.specs.declared.ids.NameId.{NameId}
use Rattle.exodus_mesh.specs.declared.ids.NameId.TheVariants.{FacesA, FacesB, Pieces, Source, Target, RingSize}
use Rattle.exodus_mesh.specs.Names.{name_of}
use Rattle.exodus_mesh.specs.VarLens.{lens_at, var_len, var_lens}
use Rattle.remap_files.specs.declared.vars.OverlapVars.{OverlapVars}
use Rattle.clip.specs.Columns.{source_column, target_column, ring_size_column, ring_numbers, ring_plane_column, triple_of, corner_numbers, corner_column}
use Rattle.remap_files.specs.OverlapDocument.{attribute_of, corner_count_of, overlap_document, IsCorner, HasCorners, HasRingSize}
use Rattle.exodus_mesh.specs.Pairs.{is_within}
use Rattle.remap_files.specs.OverlapNames.{att_in, count_in, planes_in, corner_in, five_in, no_vars, overlap_vars_in}
use Rattle.exodus_mesh.specs.Columns.{column_in}
use Rattle.remap_files.specs.OverlapRows.{overlap_of}
use Rattle.remap_files.specs.OverlapIn.{lists_in, overlap_in}
use Rattle.exodus_mesh.proofs.NodesAgain.{triple_is}
use Rattle.remap_files.proofs.OverlapLength.{parts_of, all_small, ring_sizes, least_count, overlap_document_form}
use Rattle.exodus_mesh.proofs.DocLengths.{not_zero}
use Rattle.remap_files.proofs.RowFaults.{overlap_is, no_rows}
use Rattle.remap_files.proofs.RowsAgain.{vars_of, rows_no_fault, pieces_again}
use Rattle.remap_files.proofs.ReadOverlaps.{overlap_in_is}

-- Attributes.

int_fits : (n : ℕ) → n < 2 ^ 31 → FitsSigned w32 (pos n)
int_fits n below = fits_signed_from_abs w32 (pos n) (omega (arith, below))

-- the number of an attribute that is written is read again
number_again : (n : ℕ) → n < 2 ^ 31 → number_in kinds.Int (value kinds.Int (pos n)) ≡ pos n
unfolding numbers_in value
number_again n below = ap (λ (l : List ℤ). slice_index_or l 0 (pos 0)) (numbers_back kinds.Int (pos n ∷ []) (All-from_recursion (FitsSigned w32) (pos n ∷ []) (int_fits n below, tt)))

same_true : (n : ℕ) → (n == n) ≡ true
same_true n = grind (arith, nat_tests)

within_true : (low high n : ℕ) → low ≤ n → n ≤ high → is_within low high (pos n) ≡ true
within_true low high n le ge = grind (arith, ints, le, ge)

count_again : (file : NcFile) (id : NameId) (text : List ℕ) (low high n : ℕ) → att_named file.atts (name_of [] id) ≡ Some (att_of (attribute_of text n)) → n < 2 ^ 31 → low ≤ n → n ≤ high → count_in low high file id ≡ Ok n
unfolding count_in att_in
count_again file id text low high n there below le ge = rw (there, number_again n below, within_true low high n le ge) refl

counts_again : (o : OverlapParts) → IsSoundOverlap o
    → (count_in 1 1048576 (header_of (overlap_document o)) FacesA ≡ Ok o.faces_a) × (count_in 1 1048576 (header_of (overlap_document o)) FacesB ≡ Ok o.faces_b) × (count_in 0 8388608 (header_of (overlap_document o)) Pieces ≡ Ok (length o.pieces))
unfolding overlap_document name_of
counts_again o h =
    let file = header_of (overlap_document o) in
    let few_a = h.source_faces in
    let few_b = h.target_faces in (
      count_again file FacesA (codes "faces_a") 1 1048576 o.faces_a refl (omega (arith, few_a.1)) few_a.0 few_a.1,
      count_again file FacesB (codes "faces_b") 1 1048576 o.faces_b refl (omega (arith, few_b.1)) few_b.0 few_b.1,
      count_again file Pieces (codes "pieces") 0 8388608 (length o.pieces) refl (omega (arith, h.count)) (omega arith) h.count,
    )

-- Variables, where there is a piece.

abbrev file_for : ℕ → ℕ → Piece → List Piece → NcFile
file_for faces_a faces_b p ps = header_of (overlap_document (parts_of faces_a faces_b (p ∷ ps)))

source_again : (faces_a faces_b : ℕ) (p : Piece) (ps : List Piece) → column_in (file_for faces_a faces_b p ps) Int (length (p ∷ ps)) Source ≡ Ok 0
unfolding column_in var_len lens_at name_of overlap_document placed
source_again faces_a faces_b p ps = rw (not_zero (length (p ∷ ps)) (omega arith), same_true (length (p ∷ ps))) refl

target_again : (faces_a faces_b : ℕ) (p : Piece) (ps : List Piece) → column_in (file_for faces_a faces_b p ps) Int (length (p ∷ ps)) Target ≡ Ok 1
unfolding column_in var_len lens_at name_of overlap_document placed
target_again faces_a faces_b p ps = rw (not_zero (length (p ∷ ps)) (omega arith), same_true (length (p ∷ ps))) refl

size_again : (faces_a faces_b : ℕ) (p : Piece) (ps : List Piece) → column_in (file_for faces_a faces_b p ps) Int (length (p ∷ ps)) RingSize ≡ Ok 2
unfolding column_in var_len lens_at name_of overlap_document placed
size_again faces_a faces_b p ps = rw (not_zero (length (p ∷ ps)) (omega arith), same_true (length (p ∷ ps))) refl

planes_again : (faces_a faces_b : ℕ) (p : Piece) (ps : List Piece) → 1 ≤ corner_count_of (p ∷ ps) → planes_in (file_for faces_a faces_b p ps) ≡ Ok (3, corner_count_of (p ∷ ps))
unfolding planes_in var_len lens_at name_of overlap_document placed
planes_again faces_a faces_b p ps some = rw (not_zero (corner_count_of (p ∷ ps)) some) refl

corner_again : (faces_a faces_b : ℕ) (p : Piece) (ps : List Piece) → 1 ≤ corner_count_of (p ∷ ps) → corner_in (file_for faces_a faces_b p ps) (corner_count_of (p ∷ ps)) ≡ Ok 4
unfolding corner_in var_lens lens_at name_of overlap_document placed
corner_again faces_a faces_b p ps some = rw (not_zero (corner_count_of (p ∷ ps)) some, same_true (corner_count_of (p ∷ ps))) refl

five_again : (file : NcFile) (faces_a faces_b pieces corners : ℕ) → column_in file Int pieces Source ≡ Ok 0 → column_in file Int pieces Target ≡ Ok 1 → column_in file Int pieces RingSize ≡ Ok 2 → planes_in file ≡ Ok (3, corners) → corner_in file corners ≡ Ok 4
    → five_in file faces_a faces_b pieces ≡ Ok (record { faces_a = faces_a; faces_b = faces_b; pieces = pieces; corners = corners; vars = 0 ∷ 1 ∷ 2 ∷ 3 ∷ 4 ∷ [] })
unfolding five_in
five_again file faces_a faces_b pieces corners a b c d e = rw (a, b, c, d, e) refl

joined : (file : NcFile) (faces_a faces_b pieces : ℕ) (v : OverlapVars) → count_in 1 1048576 file FacesA ≡ Ok faces_a → count_in 1 1048576 file FacesB ≡ Ok faces_b → count_in 0 8388608 file Pieces ≡ Ok pieces
    → (pieces == 0) ≡ false → five_in file faces_a faces_b pieces ≡ Ok v → overlap_vars_in file ≡ Ok v
unfolding overlap_vars_in
joined file faces_a faces_b pieces v a b n some five = rw (a, b, n, some, five) refl

joined_none : (file : NcFile) (faces_a faces_b : ℕ) → count_in 1 1048576 file FacesA ≡ Ok faces_a → count_in 1 1048576 file FacesB ≡ Ok faces_b → count_in 0 8388608 file Pieces ≡ Ok 0 → overlap_vars_in file ≡ Ok (no_vars faces_a faces_b)
unfolding overlap_vars_in
joined_none file faces_a faces_b a b n = rw (a, b, n) refl

-- Numbers of 32 and of 8 bits.

byte_fits : (n : ℕ) → n ≤ 32 → FitsSigned w8 (pos n)
byte_fits n small = fits_signed_from_abs w8 (pos n) (omega (arith, small))

ring_fits : (xs : List ℕ) → All IsRingNumber xs → All (FitsSigned w8) (map (λ n. pos n) xs)
ring_fits xs all = All-map (FitsSigned w8) (λ n. pos n) xs (λ i d below. byte_fits (slice_index_or xs i d) (all i d below).1)

planes_fit : (pieces : List Piece) → AllByRecursion (λ (p : Piece). All IsRingNumber p.ring.items) pieces → All (FitsSigned w8) (ring_plane_column pieces)
planes_fit [] h = All-nil (FitsSigned w8)
planes_fit (p ∷ ps) h = All-append (FitsSigned w8) (ring_numbers p) (ring_plane_column ps) (ring_fits p.ring.items h.0) (planes_fit ps h.1)

triples_fit : (cs : List (List ℤ)) → AllByRecursion IsCorner cs → All (FitsSigned w32) (flat_map triple_of cs)
triples_fit [] h = All-nil (FitsSigned w32)
triples_fit (c ∷ cs) h = All-append (FitsSigned w32) (triple_of c) (flat_map triple_of cs) (subst (λ (l : List ℤ). All (FitsSigned w32) l) (sym (triple_is c h.0.0)) h.0.1) (triples_fit cs h.1)

corners_fit : (pieces : List Piece) → AllByRecursion (λ (p : Piece). All IsCorner p.corners) pieces → All (FitsSigned w32) (corner_column pieces)
corners_fit [] h = All-nil (FitsSigned w32)
corners_fit (p ∷ ps) h = All-append (FitsSigned w32) (corner_numbers p) (corner_column ps) (triples_fit p.corners (recursion_from_All IsCorner p.corners h.0)) (corners_fit ps h.1)

-- the numbers of the five variables
values_again : (faces_a faces_b : ℕ) (p : Piece) (ps : List Piece) → IsSoundOverlap (parts_of faces_a faces_b (p ∷ ps)) → HasCorners (parts_of faces_a faces_b (p ∷ ps))
    → lists_in (file_for faces_a faces_b p ps) (file_of (overlap_document (parts_of faces_a faces_b (p ∷ ps)))) (0 ∷ 1 ∷ 2 ∷ 3 ∷ 4 ∷ []) ≡ source_column (p ∷ ps) ∷ target_column (p ∷ ps) ∷ ring_size_column (p ∷ ps) ∷ ring_plane_column (p ∷ ps) ∷ corner_column (p ∷ ps) ∷ []
unfolding overlap_document
values_again faces_a faces_b p ps h corners =
    let pieces = p ∷ ps in
    let o = parts_of faces_a faces_b pieces in
    let doc = overlap_document o in
    let small = all_small o h in
    let sources : All (FitsSigned w32) (source_column pieces) = All-map (FitsSigned w32) (λ (q : Piece). pos q.a) pieces (λ i d below. int_fits (slice_index_or pieces i d).a (small i d below).source) in
    let targets : All (FitsSigned w32) (target_column pieces) = All-map (FitsSigned w32) (λ (q : Piece). pos q.b) pieces (λ i d below. int_fits (slice_index_or pieces i d).b (small i d below).target) in
    let sizes : All (FitsSigned w8) (ring_size_column pieces) = All-map (FitsSigned w8) (λ (q : Piece). pos (length q.ring.items)) pieces (λ i d below. byte_fits (length (slice_index_or pieces i d).ring.items) (small i d below).greatest_size) in
    let planes = planes_fit pieces (recursion_from_All (λ (q : Piece). All IsRingNumber q.ring.items) pieces (λ i d below. (small i d below).numbers)) in
    let typed : All HasTypedValues doc.vars = All-from_recursion HasTypedValues doc.vars (sources, (targets, (sizes, (planes, (corners_fit pieces (recursion_from_All (λ (q : Piece). All IsCorner q.corners) pieces corners), tt))))) in
    let all = doc_values doc (overlap_document_form o h) typed in
    ap₂ (λ a l. a ∷ l) all.0 (ap₂ (λ a l. a ∷ l) all.1.0 (ap₂ (λ a l. a ∷ l) all.1.1.0 (ap₂ (λ a l. a ∷ l) all.1.1.1.0 (ap (λ a. a ∷ []) all.1.1.1.1.0))))

some_again : (faces_a faces_b : ℕ) (p : Piece) (ps : List Piece) → IsSoundOverlap (parts_of faces_a faces_b (p ∷ ps)) → HasCorners (parts_of faces_a faces_b (p ∷ ps))
    → overlap_in (file_for faces_a faces_b p ps) (file_of (overlap_document (parts_of faces_a faces_b (p ∷ ps)))) ≡ Ok (parts_of faces_a faces_b (p ∷ ps))
some_again faces_a faces_b p ps h typed =
    let pieces = p ∷ ps in
    let o = parts_of faces_a faces_b pieces in
    let file = file_for faces_a faces_b p ps in
    let bytes = file_of (overlap_document o) in
    let v = vars_of o in
    let values = source_column pieces ∷ target_column pieces ∷ ring_size_column pieces ∷ ring_plane_column pieces ∷ corner_column pieces ∷ [] in
    let some : 1 ≤ corner_count_of pieces = omega (arith, least_count pieces (recursion_from_All HasRingSize pieces (ring_sizes o h))) in
    let counts = counts_again o h in
    let five = five_again file faces_a faces_b (length pieces) (corner_count_of pieces) (source_again faces_a faces_b p ps) (target_again faces_a faces_b p ps) (size_again faces_a faces_b p ps) (planes_again faces_a faces_b p ps some) (corner_again faces_a faces_b p ps some) in
    let found : overlap_vars_in file ≡ Ok v = joined file faces_a faces_b (length pieces) v counts.0 counts.1 counts.2 (not_zero (length pieces) (omega arith)) five in
    overlap_in_is file bytes v found
    ∙ ap (overlap_of v) (values_again faces_a faces_b p ps h typed)
    ∙ overlap_is v values (rows_no_fault o h)
    ∙ ap (λ (l : List Piece). Ok (parts_of faces_a faces_b l)) (pieces_again o h typed)

none_again : (faces_a faces_b : ℕ) → IsSoundOverlap (parts_of faces_a faces_b []) → overlap_in (header_of (overlap_document (parts_of faces_a faces_b []))) (file_of (overlap_document (parts_of faces_a faces_b []))) ≡ Ok (parts_of faces_a faces_b [])
none_again faces_a faces_b h =
    let o = parts_of faces_a faces_b [] in
    let counts = counts_again o h in
    overlap_in_is (header_of (overlap_document o)) (file_of (overlap_document o)) (no_vars faces_a faces_b) (joined_none (header_of (overlap_document o)) faces_a faces_b counts.0 counts.1 counts.2)
    ∙ no_rows (no_vars faces_a faces_b) [] refl refl

again : (faces_a faces_b : ℕ) (pieces : List Piece) → IsSoundOverlap (parts_of faces_a faces_b pieces) → HasCorners (parts_of faces_a faces_b pieces)
    → overlap_in (header_of (overlap_document (parts_of faces_a faces_b pieces))) (file_of (overlap_document (parts_of faces_a faces_b pieces))) ≡ Ok (parts_of faces_a faces_b pieces)
again faces_a faces_b [] h typed = none_again faces_a faces_b h
again faces_a faces_b (p ∷ ps) h typed = some_again faces_a faces_b p ps h typed

-- the file has one header alone
pub read_again : (o : OverlapParts) (f : NcFile) → IsSoundOverlap o → HasCorners o → IsHeader (file_of (overlap_document o)) (length (file_of (overlap_document o))) f → overlap_in f (file_of (overlap_document o)) ≡ Ok o
read_again o f h typed header =
    let doc = overlap_document o in
    let one : header_of doc ≡ f = one_header (file_of doc) (length (file_of doc)) (header_of doc) f (doc_header doc (overlap_document_form o h)) header in
    subst (λ (g : NcFile). overlap_in g (file_of doc) ≡ Ok o) one (again o.faces_a o.faces_b o.pieces h typed)
