-- How many nodes and faces a raw mesh of a file has.
use Rattle.std.proofs.Common.{◌≡◌, ◌≢◌, ◌==◌, ℕ, zero, suc, ◌≤◌, ℤ, Bool, true, false, if◌then◌else◌, List, [], ◌∷◌, ◌++◌, length, map, All, Result, Ok, Err, slice_index, refl, sym, ap, subst, ◌∙◌, arith, length-append}
use Rattle.std.specs.List.{sum_by}
use Rattle.std.proofs.lemmas.Bool.Decides.{nat_tests}
use Rattle.std.proofs.lemmas.List.{length-map}
use Rattle.std.proofs.lemmas.List.Elements.{All-head, All-tail}
use Rattle.std.proofs.lemmas.List.FromFn.{length-map-range_with_len}
use Rattle.std.proofs.lemmas.List.Sums.{sum_by-cons, sum_by-append}
use Rattle.nc_format.specs.declared.NcFile.{NcFile}
use Rattle.nc_format.specs.Grammar.{lens_of}
use Rattle.nc_format.specs.Numbers.{dim_named}
use Rattle.exodus_mesh.specs.declared.ids.NameId.TheVariants.{NumElBlk}
use Rattle.exodus_mesh.specs.declared.ids.NameFault.{NameFault}
use Rattle.exodus_mesh.specs.declared.ids.NameFault.TheVariants.{Missing, Shape}
use Rattle.exodus_mesh.specs.declared.vars.BlockVar.{BlockVar}
use Rattle.exodus_mesh.specs.declared.vars.MeshVars.{MeshVars}
use Rattle.exodus_mesh.specs.Names.{◌>>=◌, name_of, found_or}
use Rattle.exodus_mesh.specs.VarLens.{one_len}
use Rattle.exodus_mesh.specs.MeshNames.{coord_in, nodes_in, block_count_in, block_in, blocks_in, mesh_vars_in}
use Rattle.exodus_mesh.specs.MeshValues.{axis, node_at, face_of_row, rows_of, block_faces, faces_of, row_lens, mesh_of}
use Rattle.exodus_mesh.specs.Found.{IsBlockVar}
use Rattle.exodus_mesh.proofs.FoundVars.{AreMeshVars, mesh_vars_ok}
use Rattle.exodus_mesh.proofs.NumberVars.{value_ok, ok_same}

rows_count : (n width : ℕ) (numbers : List ℤ) → length (rows_of n width numbers) ≡ n
rows_count zero width numbers = refl
rows_count (suc n) width numbers = ap suc (rows_count n width _)

faces_count : (blocks : List BlockVar) (rows : List (List ℤ)) → map length rows ≡ row_lens blocks → length (faces_of blocks rows) ≡ sum_by (λ (b : BlockVar). b.faces) blocks
faces_count [] rows h = refl
faces_count (b ∷ bs) [] h = absurd cc
faces_count (b ∷ bs) (numbers ∷ rows) h =
    let rest : map length rows ≡ row_lens bs = cc in
    omega (arith, length-append (block_faces b numbers) (faces_of bs rows), length-map (rows_of b.faces b.width numbers) face_of_row, rows_count b.faces b.width numbers, faces_count bs rows rest, sum_by-cons (λ (c : BlockVar). c.faces) b bs)

pub raw_nodes : (vars : MeshVars) (coords rows : List (List ℤ)) → length ((mesh_of vars coords rows).nodes) ≡ vars.nodes
unfolding mesh_of
raw_nodes vars coords rows = length-map-range_with_len (node_at (axis vars.coord vars.nodes coords 0) (axis vars.coord vars.nodes coords 1) (axis vars.coord vars.nodes coords 2)) 0 vars.nodes

pub raw_faces : (file : NcFile) (vars : MeshVars) (coords rows : List (List ℤ)) → AreMeshVars file vars → map length rows ≡ row_lens vars.blocks → length ((mesh_of vars coords rows).faces) ≡ vars.faces
unfolding mesh_of
raw_faces file vars coords rows are h = faces_count vars.blocks rows h ∙ sym are.faces

-- There is at least one block, and each has a face.

not_zero : (b : Bool) (n m : ℕ) (e : NameFault) → (n == 0) ≡ b → (let r : Result ℕ NameFault = if b then Err e else Ok n in r ≡ Ok m) → m ≢ 0
not_zero true n m e is h = absurd cc
not_zero false n m e is h = let same : n ≡ m = ok_same n m h in λ none. absurd (grind (arith, nat_tests))

some_blocks : (file : NcFile) (count : ℕ) → block_count_in file ≡ Ok count → count ≢ 0
unfolding block_count_in
some_blocks file count h =
    let p = value_ok (found_or (Missing NumElBlk) (dim_named file.dims (name_of [] NumElBlk))) (λ place. one_len NumElBlk (slice_index (lens_of file.dims) place ∷ [])) count h in
    not_zero (slice_index (lens_of file.dims) p.0 == 0) (slice_index (lens_of file.dims) p.0) count (Shape NumElBlk) refl p.2

last_of : (P : BlockVar → Type 0) (before : List BlockVar) (block : BlockVar) → All P (before ++ block ∷ []) → P block
last_of P [] block all = All-head P block [] all
last_of P (b ∷ bs) block all = last_of P bs block (All-tail P b (bs ++ block ∷ []) all)

-- the last block has a face
last_face : (file : NcFile) (count : ℕ) (blocks : List BlockVar) → count ≢ 0 → blocks_in file count ≡ Ok blocks → All (IsBlockVar file) blocks → 1 ≤ sum_by (λ (b : BlockVar). b.faces) blocks
last_face file zero blocks some h all = absurd (some refl)
last_face file (suc n) blocks some h all =
    let p = value_ok (blocks_in file n) (λ before. block_in file (suc n) >>= λ block. Ok (before ++ block ∷ [])) blocks h in
    let q = value_ok (block_in file (suc n)) (λ block. Ok (p.0 ++ block ∷ [])) blocks p.2 in
    let same : p.0 ++ q.0 ∷ [] ≡ blocks = ok_same (p.0 ++ q.0 ∷ []) blocks q.2 in
    let faces : BlockVar → ℕ = λ (b : BlockVar). b.faces in
    let last : IsBlockVar file q.0 = last_of (IsBlockVar file) p.0 q.0 (subst (λ (l : List BlockVar). All (IsBlockVar file) l) (sym same) all) in
    let one : q.0.faces ≢ 0 = All-head (λ k. k ≢ 0) q.0.faces (q.0.width ∷ []) last.fixed in
    omega (arith, ap (sum_by faces) same, sum_by-append faces p.0 (q.0 ∷ []), sum_by-cons faces q.0 [], one)

pub some_faces : (file : NcFile) (vars : MeshVars) → mesh_vars_in file ≡ Ok vars → 1 ≤ vars.faces
unfolding mesh_vars_in
some_faces file vars h =
    let are = mesh_vars_ok file vars h in
    let p = value_ok (coord_in file) (λ coord. nodes_in file coord >>= λ nodes. block_count_in file >>= λ count. blocks_in file count >>= λ blocks. Ok (record { coord = coord; nodes = nodes; blocks = blocks; faces = sum_by (λ (b : BlockVar). b.faces) blocks })) vars h in
    let q = value_ok (nodes_in file p.0) (λ nodes. block_count_in file >>= λ count. blocks_in file count >>= λ blocks. Ok (record { coord = p.0; nodes = nodes; blocks = blocks; faces = sum_by (λ (b : BlockVar). b.faces) blocks })) vars p.2 in
    let r = value_ok (block_count_in file) (λ count. blocks_in file count >>= λ blocks. Ok (record { coord = p.0; nodes = q.0; blocks = blocks; faces = sum_by (λ (b : BlockVar). b.faces) blocks })) vars q.2 in
    let s = value_ok (blocks_in file r.0) (λ blocks. Ok (record { coord = p.0; nodes = q.0; blocks = blocks; faces = sum_by (λ (b : BlockVar). b.faces) blocks })) vars r.2 in
    let here : MeshVars = record { coord = p.0; nodes = q.0; blocks = s.0; faces = sum_by (λ (b : BlockVar). b.faces) s.0 } in
    let same : here ≡ vars = ok_same here vars s.2 in
    let blocks : s.0 ≡ vars.blocks = ap (λ (v : MeshVars). v.blocks) same in
    let all : All (IsBlockVar file) s.0 = subst (λ (l : List BlockVar). All (IsBlockVar file) l) (sym blocks) are.blocks in
    omega (arith, last_face file r.0 s.0 (some_blocks file r.0 r.1) s.1 all, ap (λ (v : MeshVars). v.faces) same)
