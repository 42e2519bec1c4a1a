-- How long the file of a mesh is, and that its document is well formed.
use Rattle.std.proofs.Common.{◌≡◌, ◌≢◌, ◌+◌, ◌*◌, ◌-◌, ◌≤◌, ◌<◌, ◌^◌, ◌==◌, ℕ, ℤ, false, max, pos, List, [], ◌∷◌, ◌++◌, length, map, drop, fold, replicate, refl, ap, ap₂, sym, ◌∙◌, if◌then◌else◌, arith, mul-le-mul, lit<, lit≤, length-append, slice_index_or, slice_index, All, sum_by}
use Rattle.std.proofs.lemmas.List.Sums.{sum_by-cons}
use Rattle.std.proofs.lemmas.List.{length-replicate, length-map}
use Rattle.std.proofs.lemmas.List.Elements.{All-from_recursion, All-head, All-tail}
use Rattle.std.specs.List.{flat_map, AllByRecursion, count_by}
use Rattle.vec_exact.specs.declared.RawMesh.{RawMesh}
use Rattle.vec_exact.specs.Counts.{AreAllowedCounts}
use Rattle.nc_write.specs.declared.DocVar.{DocVar}
use Rattle.nc_write.specs.declared.NcDoc.{NcDoc}
use Rattle.nc_write.specs.Extents.{lens_of, product_of, has_records}
use Rattle.nc_write.specs.Widths.{width, number_bytes}
use Rattle.nc_write.specs.File.{version_of, numbers_of, is_record, fixed_data, header_len, dimension, attribute, name_bytes, variable, file_of}
use Rattle.nc_write.specs.Form.{IsWellFormed, full_lens}
use Rattle.nc_write.proofs.PartLengths.{header_len_is}
use Rattle.nc_write.proofs.Places.{length_file_of_fixed}
use Rattle.exodus_mesh.proofs.DocLengths.{width_is, var_length, ints_length, not_zero, not_none, full_len}
use Rattle.exodus_mesh.proofs.Widths.{all_within, all_within_each}
use Rattle.exodus_mesh.specs.MeshDocument.{component, filled, width_of, dimensions_of, coord_of, connect_of, mesh_document}

version_is : (raw : RawMesh) → version_of (mesh_document raw) ≡ 2
unfolding version_of mesh_document
version_is raw = refl

dims_length : (n f w : ℕ) → length (flat_map (dimension 2) (dimensions_of n f w)) ≡ 120
unfolding dimension name_bytes number_bytes width
dims_length n f w = refl

coord_name : (nodes : List (List ℤ)) → length (name_bytes 2 (coord_of nodes).name) ≡ 12
unfolding name_bytes number_bytes width
coord_name nodes = refl

connect_name : (faces : List (List ℤ)) (w : ℕ) → length (name_bytes 2 (connect_of faces w).name) ≡ 12
unfolding name_bytes number_bytes width
connect_name faces w = refl

sum_of_two : (f : DocVar → ℕ) (v w : DocVar) → sum_by f (v ∷ w ∷ []) ≡ f v + f w
sum_of_two f v w = omega (arith, sum_by-cons f v (w ∷ []), sum_by-cons f w [])

parts_length : (doc : NcDoc) (coord connect : DocVar) → version_of doc ≡ 2 → length (flat_map (dimension 2) doc.dims) ≡ 120 → doc.atts ≡ [] → doc.vars ≡ coord ∷ connect ∷ []
    → length (name_bytes 2 coord.name) ≡ 12 → length (name_bytes 2 connect.name) ≡ 12 → length coord.dims ≡ 2 → length connect.dims ≡ 2 → header_len doc ≡ 248
parts_length doc coord connect version dims atts vars coord_name connect_name coord_dims connect_dims =
    let wide : width (version_of doc) ≡ 4 = ap width version ∙ width_is in
    let no_atts : length (flat_map (attribute (version_of doc)) doc.atts) ≡ 0 = ap (λ l. length (flat_map (attribute (version_of doc)) l)) atts in
    let dims_are : length (flat_map (dimension (version_of doc)) doc.dims) ≡ 120 = ap (λ v. length (flat_map (dimension v) doc.dims)) version ∙ dims in
    let vars_are : sum_by (λ v. length (variable doc 0 v)) doc.vars ≡ length (variable doc 0 coord) + length (variable doc 0 connect) =
    ap (λ l. sum_by (λ v. length (variable doc 0 v)) l) vars ∙ omega (arith, sum_of_two (λ v. length (variable doc 0 v)) coord connect) in
    omega (
      arith,
      header_len_is doc,
      wide,
      no_atts,
      dims_are,
      vars_are,
      var_length doc coord 12 2 version coord_name coord_dims,
      var_length doc connect 12 2 version connect_name connect_dims,
    )

header_is : (raw : RawMesh) → header_len (mesh_document raw) ≡ 248
unfolding mesh_document
header_is raw =
    parts_length (mesh_document raw) (coord_of raw.nodes) (connect_of raw.faces (width_of raw.faces)) (version_is raw) (dims_length (length raw.nodes) (length raw.faces) (width_of raw.faces)) refl refl
    (coord_name raw.nodes) (connect_name raw.faces (width_of raw.faces)) refl refl

-- each face takes as many numbers as the width
length_filled : (w : ℕ) (faces : List (List ℤ)) → AllByRecursion (λ face. length face ≤ w) faces → length (flat_map (filled w) faces) ≡ length faces * w
length_filled w [] h = omega arith
length_filled w (f ∷ fs) h =
    omega (
      arith,
      h.0,
      length-append (filled w f) (flat_map (filled w) fs),
      length-append f (replicate (w - length f) (slice_index_or f (length f - 1) (pos 0))),
      length-replicate {A = ℤ} (w - length f) (slice_index_or f (length f - 1) (pos 0)),
      length_filled w fs h.1,
    )

length_components : (nodes : List (List ℤ)) → length (component 0 nodes ++ component 1 nodes ++ component 2 nodes) ≡ 3 * length nodes
length_components nodes =
    omega (
      arith,
      length-append (component 0 nodes ++ component 1 nodes) (component 2 nodes),
      length-append (component 0 nodes) (component 1 nodes),
      length-map nodes (λ t. slice_index_or t 0 (pos 0)),
      length-map nodes (λ t. slice_index_or t 1 (pos 0)),
      length-map nodes (λ t. slice_index_or t 2 (pos 0)),
    )

coord_fixed : (raw : RawMesh) → is_record (mesh_document raw) (coord_of raw.nodes) ≡ false
unfolding mesh_document has_records
coord_fixed raw = refl

connect_fixed : (raw : RawMesh) → 1 ≤ length raw.faces → is_record (mesh_document raw) (connect_of raw.faces (width_of raw.faces)) ≡ false
unfolding mesh_document has_records
connect_fixed raw least = not_zero (length raw.faces) least

vars_of : (raw : RawMesh) → (mesh_document raw).vars ≡ coord_of raw.nodes ∷ connect_of raw.faces (width_of raw.faces) ∷ []
unfolding mesh_document
vars_of raw = refl

no_records : (raw : RawMesh) → (mesh_document raw).records ≡ 0
unfolding mesh_document
no_records raw = refl

-- the length of the file of a mesh
pub length_mesh_file : (raw : RawMesh) → 1 ≤ length raw.faces → length (file_of (mesh_document raw)) ≡ 248 + 12 * length raw.nodes + 4 * (length raw.faces * width_of raw.faces)
length_mesh_file raw least =
    let doc = mesh_document raw in
    let coord = coord_of raw.nodes in
    let connect = connect_of raw.faces (width_of raw.faces) in
    omega (
      arith,
      length_file_of_fixed doc (no_records raw),
      header_is raw,
      ap (λ l. sum_by (λ v. length (fixed_data doc v)) l) (vars_of raw),
      sum_of_two (λ v. length (fixed_data doc v)) coord connect,
      ints_length doc coord (component 0 raw.nodes ++ component 1 raw.nodes ++ component 2 raw.nodes) (3 * length raw.nodes) (coord_fixed raw) refl (length_components raw.nodes),
      ints_length doc connect (flat_map (filled (width_of raw.faces)) raw.faces) (length raw.faces * width_of raw.faces) (connect_fixed raw least) refl (length_filled (width_of raw.faces) raw.faces (all_within_each raw.faces)),
    )

-- a face that is not empty has a node
some : (face : List ℤ) → face ≢ [] → 1 ≤ length face
some [] h = absurd (h refl)
some (x ∷ xs) h = omega arith

-- the width of faces that are not empty is at least 1
pub width_least : (faces : List (List ℤ)) → 1 ≤ length faces → All (λ face. face ≢ []) faces → 1 ≤ width_of faces
width_least faces least each = omega (arith, some (slice_index_or faces 0 []) (each 0 [] (omega (arith, least))), all_within faces 0 [] (omega (arith, least)))

width_from : (a w : ℕ) (faces : List (List ℤ)) → a ≤ w → All (λ face. length face ≤ w) faces → fold max a (map length faces) ≤ w
width_from a w [] le each = le
width_from a w (f ∷ fs) le each =
    width_from (max a (length f)) w fs (omega (arith, le, All-head (λ face. length face ≤ w) f fs each)) (All-tail (λ face. length face ≤ w) f fs each)

-- and no greater than the greatest length of a face
pub width_greatest : (faces : List (List ℤ)) (w : ℕ) → All (λ face. length face ≤ w) faces → width_of faces ≤ w
width_greatest faces w each = width_from 0 w faces (omega arith) each

-- at most one of the lengths is 0
no_record_dimension : (nodes faces width : ℕ) → 1 ≤ nodes → 1 ≤ faces → 1 ≤ width → count_by (λ d. d.len == 0) (dimensions_of nodes faces width) ≤ 1
no_record_dimension nodes faces width some_node some_face wide = rw (not_zero nodes some_node, not_zero faces some_face, not_zero width wide) (omega arith)

coord_values : (raw : RawMesh) → length (numbers_of (coord_of raw.nodes).values) ≡ product_of (full_lens (mesh_document raw)) (0 ∷ 1 ∷ [])
unfolding mesh_document product_of
coord_values raw = omega (arith, length_components raw.nodes, full_len (length raw.nodes))

connect_values : (raw : RawMesh) → length (numbers_of (connect_of raw.faces (width_of raw.faces)).values) ≡ product_of (full_lens (mesh_document raw)) (4 ∷ 5 ∷ [])
unfolding mesh_document product_of
connect_values raw =
    let wide : (if width_of raw.faces == 0 then 0 else width_of raw.faces) * 1 ≡ width_of raw.faces = omega (arith, full_len (width_of raw.faces)) in
    length_filled (width_of raw.faces) raw.faces (all_within_each raw.faces) ∙ ap₂ (λ (a b : ℕ). a * b) (sym (full_len (length raw.faces))) (sym wide)

-- the file of a mesh within the limits is not long
short_file : (raw : RawMesh) → 1 ≤ length raw.faces → AreAllowedCounts (length raw.nodes) (length raw.faces) → width_of raw.faces ≤ 4294967295 → length (file_of (mesh_document raw)) < 2 ^ 63
short_file raw some_face counts high =
    let product : length raw.faces * width_of raw.faces ≤ 1048576 * 4294967295 = mul-le-mul counts.face_limit high in
    omega (arith, length_mesh_file raw some_face, counts.node_limit, product)

pub mesh_document_form : (raw : RawMesh) → 1 ≤ length raw.nodes → 1 ≤ length raw.faces → AreAllowedCounts (length raw.nodes) (length raw.faces) → 1 ≤ width_of raw.faces → width_of raw.faces ≤ 4294967295 → IsWellFormed (mesh_document raw)
unfolding mesh_document
mesh_document_form raw some_node some_face counts low high =
    let doc = mesh_document raw in
    record {
      lens = All-from_recursion (λ d. d.len ≤ 4294967295) doc.dims (lit≤ tt, (omega (arith, counts.node_limit), (omega (arith, counts.face_limit), (lit≤ tt, (omega (arith, counts.face_limit), (high, tt))))));
      one_record_dim = no_record_dimension (length raw.nodes) (length raw.faces) (width_of raw.faces) some_node some_face low;
      ids = All-from_recursion (λ v. All (λ id. id < 6) v.dims) doc.vars
          (All-from_recursion (λ id. id < 6) (0 ∷ 1 ∷ []) (lit< tt, (lit< tt, tt)), (All-from_recursion (λ id. id < 6) (4 ∷ 5 ∷ []) (lit< tt, (lit< tt, tt)), tt));
      record_dim_first = All-from_recursion (λ v. All (λ id. slice_index (lens_of doc.dims) id ≢ 0) (drop 1 v.dims)) doc.vars (
        All-from_recursion (λ id. slice_index (lens_of doc.dims) id ≢ 0) (1 ∷ []) (not_none (length raw.nodes) some_node, tt),
        (All-from_recursion (λ id. slice_index (lens_of doc.dims) id ≢ 0) (5 ∷ []) (not_none (width_of raw.faces) low, tt), tt),
      );
      values = All-from_recursion (λ v. length (numbers_of v.values) ≡ product_of (full_lens doc) v.dims) doc.vars (coord_values raw, (connect_values raw, tt));
      records = lit< tt;
      no_records = λ _. refl;
      short_lists = record {
        dims = lit< tt;
        dim_names = All-from_recursion (λ d. length d.name < 2 ^ 31) doc.dims (lit< tt, (lit< tt, (lit< tt, (lit< tt, (lit< tt, (lit< tt, tt))))));
        atts = lit< tt;
        att_names = All-from_recursion (λ a. length a.name < 2 ^ 31) doc.atts tt;
        vars = lit< tt;
        var_names = All-from_recursion (λ v. length v.name < 2 ^ 31) doc.vars (lit< tt, (lit< tt, tt));
        ids = All-from_recursion (λ v. length v.dims < 2 ^ 31) doc.vars (lit< tt, (lit< tt, tt));
      };
      file = short_file raw some_face counts high;
    }
