-- An accepted mesh is read again from the file of its document.
use Rattle.std.proofs.Common.{◌≡◌, ◌≢◌, ◌≤◌, ℕ, ℤ, pos, List, [], ◌∷◌, ◌++◌, length, All, Ok, refl, ap, ap₂, subst, ◌∙◌, arith, slice_index_or}
use Rattle.std.specs.List.{flat_map, sum_by}
use Rattle.std.specs.Fmt.{digits}
use Rattle.std.proofs.lemmas.Int.{ints}
use Rattle.std.proofs.lemmas.List.Elements.{All-from_recursion}
use Rattle.std.proofs.lemmas.List.{append-nil}
use Rattle.vec_exact.specs.declared.RawMesh.{RawMesh}
use Rattle.vec_exact.specs.Face.{IsAccepted}
use Rattle.vec_exact.proofs.Accepted.{length-face_nodes}
use Rattle.nc_write.specs.File.{file_of}
use Rattle.nc_write.specs.Form.{IsWellFormed}
use Rattle.nc_format.specs.declared.NcFile.{NcFile}
use Rattle.nc_format.specs.Placing.{placed}
use Rattle.nc_format.specs.Header.{IsHeader}
use Rattle.nc_format.specs.Written.{header_of, HasTypedValues}
use Rattle.nc_format.proofs.Whole.{one_header}
use Rattle.nc_format.proofs.Inside.{doc_header}
use Rattle.nc_format.proofs.Gathered.{doc_values}
use Rattle.mesh_check.specs.Mesh.{IsAcceptedMesh}
use Rattle.exodus_mesh.specs.declared.vars.CoordVars.{CoordVars}
use Rattle.exodus_mesh.specs.declared.vars.CoordVars.TheVariants.{Whole}
use Rattle.exodus_mesh.specs.declared.vars.BlockVar.{BlockVar}
use Rattle.exodus_mesh.specs.declared.vars.MeshVars.{MeshVars}
use Rattle.exodus_mesh.specs.Names.{name_of, ◌>>=◌}
use Rattle.exodus_mesh.specs.MeshDocument.{mesh_document, width_of, component, filled}
use Rattle.exodus_mesh.specs.VarLens.{lens_at, var_lens}
use Rattle.exodus_mesh.specs.MeshNames.{coord_in, nodes_in, whole_nodes, block_count_in, block_in, blocks_in, mesh_vars_in}
use Rattle.exodus_mesh.specs.MeshValues.{mesh_of, nodes_of, faces_of}
use Rattle.exodus_mesh.specs.MeshIn.{values_in, mesh_at, mesh_in, HasTriples}
use Rattle.exodus_mesh.proofs.DocLengths.{not_zero}
use Rattle.exodus_mesh.proofs.Widths.{all_within_each}
use Rattle.exodus_mesh.proofs.MeshLength.{width_greatest, width_least, mesh_document_form}
use Rattle.exodus_mesh.proofs.Unrepeated.{faces_again}
use Rattle.exodus_mesh.proofs.AcceptedFaces.{coords_fit, rows_fit, faces_unrepeated}
use Rattle.exodus_mesh.proofs.NodesAgain.{nodes_again}
use Rattle.exodus_mesh.proofs.ReadValues.{no_count_fault}

coord_is : (raw : RawMesh) → coord_in (header_of (mesh_document raw)) ≡ Ok (Whole 0)
unfolding coord_in name_of mesh_document placed
coord_is raw = refl

whole_is : (raw : RawMesh) → 1 ≤ length raw.nodes → whole_nodes (header_of (mesh_document raw)) 0 ≡ Ok (length raw.nodes)
unfolding whole_nodes var_lens lens_at mesh_document placed
whole_is raw some = rw (not_zero (length raw.nodes) some) refl

count_is : (raw : RawMesh) → block_count_in (header_of (mesh_document raw)) ≡ Ok 1
unfolding block_count_in name_of mesh_document placed
count_is raw = refl

-- the one block
abbrev block_of : RawMesh → BlockVar
block_of raw = record { var = 1; faces = length raw.faces; width = width_of raw.faces }

block_is : (raw : RawMesh) → 1 ≤ length raw.faces → 1 ≤ width_of raw.faces → block_in (header_of (mesh_document raw)) 1 ≡ Ok (block_of raw)
unfolding block_in name_of var_lens lens_at mesh_document placed digits
block_is raw some wide = rw (not_zero (length raw.faces) some, not_zero (width_of raw.faces) wide) refl

abbrev vars_of : RawMesh → MeshVars
vars_of raw = record { coord = Whole 0; nodes = length raw.nodes; blocks = block_of raw ∷ []; faces = length raw.faces }

joined : (file : NcFile) (coord : CoordVars) (nodes count : ℕ) (blocks : List BlockVar) → coord_in file ≡ Ok coord → nodes_in file coord ≡ Ok nodes → block_count_in file ≡ Ok count → blocks_in file count ≡ Ok blocks
    → mesh_vars_in file ≡ Ok (record { coord = coord; nodes = nodes; blocks = blocks; faces = sum_by (λ (b : BlockVar). b.faces) blocks })
unfolding mesh_vars_in
joined file coord nodes count blocks a b c d = rw (a, b, c, d) refl

one_block : (file : NcFile) (block : BlockVar) → block_in file 1 ≡ Ok block → blocks_in file 1 ≡ Ok (block ∷ [])
one_block file block h = ap (λ r. r >>= λ b. Ok (b ∷ [])) h

vars_are : (raw : RawMesh) → 1 ≤ length raw.nodes → 1 ≤ length raw.faces → 1 ≤ width_of raw.faces → mesh_vars_in (header_of (mesh_document raw)) ≡ Ok (vars_of raw)
vars_are raw some_node some_face wide =
    let file = header_of (mesh_document raw) in
    let sum : sum_by (λ (b : BlockVar). b.faces) (block_of raw ∷ []) ≡ length raw.faces = omega arith in
    joined file (Whole 0) (length raw.nodes) 1 (block_of raw ∷ []) (coord_is raw) (whole_is raw some_node) (count_is raw) (one_block file (block_of raw) (block_is raw some_face wide))
    ∙ ap (λ n. Ok (record { coord = Whole 0; nodes = length raw.nodes; blocks = block_of raw ∷ []; faces = n })) sum

-- the numbers of both variables
values_are : (raw : RawMesh) → IsAcceptedMesh raw → IsWellFormed (mesh_document raw)
    → (values_in (header_of (mesh_document raw)) (file_of (mesh_document raw)) 0 ≡ component 0 raw.nodes ++ component 1 raw.nodes ++ component 2 raw.nodes)
    × (values_in (header_of (mesh_document raw)) (file_of (mesh_document raw)) 1 ≡ flat_map (filled (width_of raw.faces)) raw.faces)
unfolding mesh_document
values_are raw a form =
    let doc = mesh_document raw in
    let typed : All HasTypedValues doc.vars = All-from_recursion HasTypedValues doc.vars (coords_fit raw.nodes a.nodes, (rows_fit raw.nodes (width_of raw.faces) raw.faces a.counts.node_limit a.faces, tt)) in
    let both = doc_values doc form typed in
    (both.0, both.1.0)

mesh_is : (raw : RawMesh) → IsAcceptedMesh raw → HasTriples raw → IsWellFormed (mesh_document raw) → mesh_at (header_of (mesh_document raw)) (file_of (mesh_document raw)) (vars_of raw) ≡ raw
unfolding mesh_of
mesh_is raw a triples form =
    let values = values_are raw a form in
    let nodes = ap (λ v. nodes_of (Whole 0) (length raw.nodes) (v ∷ [])) values.0 ∙ nodes_again raw.nodes triples in
    let faces = ap (λ v. faces_of (block_of raw ∷ []) (v ∷ [])) values.1 ∙ append-nil _ ∙ faces_again (width_of raw.faces) raw.faces (all_within_each raw.faces) (faces_unrepeated raw.nodes raw.faces a.faces) in
    ap₂ (λ (n f : List (List ℤ)). let r : RawMesh = record { nodes = n; faces = f } in r) nodes faces

some_numbers : (nodes : List (List ℤ)) (face : List ℤ) → IsAccepted nodes face → 3 ≤ length face
some_numbers nodes face a = omega (arith, a.accepted.least_size, length-face_nodes nodes face)

few_numbers : (nodes : List (List ℤ)) (face : List ℤ) → IsAccepted nodes face → length face ≤ 16
few_numbers nodes face a = omega (arith, a.accepted.greatest_size, length-face_nodes nodes face)

not_empty : (face : List ℤ) → 3 ≤ length face → face ≢ []
not_empty face some e = absurd (omega (arith, some, ap length e))

some_node : (raw : RawMesh) → IsAcceptedMesh raw → 1 ≤ length raw.nodes
some_node raw a =
    let face = slice_index_or raw.faces 0 [] in
    let accepted : IsAccepted raw.nodes face = a.faces 0 [] (omega (arith, a.some_face)) in
    let in_range = accepted.in_range 0 (pos 0) (omega (arith, some_numbers raw.nodes face accepted)) in
    omega (arith, ints, in_range.0, in_range.1)

some_width : (raw : RawMesh) → IsAcceptedMesh raw → 1 ≤ width_of raw.faces
some_width raw a = width_least raw.faces a.some_face (λ i d below. not_empty (slice_index_or raw.faces i d) (some_numbers raw.nodes (slice_index_or raw.faces i d) (a.faces i d below)))

-- the document of an accepted mesh is well formed
pub accepted_form : (raw : RawMesh) → IsAcceptedMesh raw → IsWellFormed (mesh_document raw)
accepted_form raw a =
    let narrow : width_of raw.faces ≤ 16 = width_greatest raw.faces 16 (λ i d below. few_numbers raw.nodes (slice_index_or raw.faces i d) (a.faces i d below)) in
    mesh_document_form raw (some_node raw a) a.some_face a.counts (some_width raw a) (omega (arith, narrow))

again : (raw : RawMesh) → IsAcceptedMesh raw → HasTriples raw → mesh_in (header_of (mesh_document raw)) (file_of (mesh_document raw)) ≡ Ok raw
unfolding mesh_in
again raw a triples =
    rw (vars_are raw (some_node raw a) a.some_face (some_width raw a), no_count_fault (vars_of raw) a.counts)
    (ap (λ (r : RawMesh). Ok r) (mesh_is raw a triples (accepted_form raw a)))

-- the file has one header alone
pub read_again : (raw : RawMesh) (f : NcFile) → IsAcceptedMesh raw → HasTriples raw → IsHeader (file_of (mesh_document raw)) (length (file_of (mesh_document raw))) f → mesh_in f (file_of (mesh_document raw)) ≡ Ok raw
read_again raw f a triples h =
    let doc = mesh_document raw in
    let one : header_of doc ≡ f = one_header (file_of doc) (length (file_of doc)) (header_of doc) f (doc_header doc (accepted_form raw a)) h in
    subst (λ (g : NcFile). mesh_in g (file_of doc) ≡ Ok raw) one (again raw a triples)
