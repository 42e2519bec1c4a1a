-- Where names are found, each variable has the type and the lengths that a mesh has.
use Rattle.std.proofs.Common.{◌≡◌, ℕ, zero, suc, List, [], ◌∷◌, ◌++◌, All, Ok, refl, sym, subst, ◌∙◌}
use Rattle.std.specs.List.{sum_by}
use Rattle.std.proofs.lemmas.List.Elements.{All-push, All-nil}
use Rattle.nc_format.specs.declared.NcFile.{NcFile}
use Rattle.exodus_mesh.specs.declared.kinds.NumberKind.TheVariants.{Int}
use Rattle.exodus_mesh.specs.declared.ids.NameId.TheVariants.{Coord, CoordX, CoordY, CoordZ, Connect}
use Rattle.exodus_mesh.specs.declared.ids.NameFault.TheVariants.{Missing}
use Rattle.exodus_mesh.specs.declared.vars.CoordVars.{CoordVars}
use Rattle.exodus_mesh.specs.declared.vars.CoordVars.TheVariants.{Whole, Split}
use Rattle.exodus_mesh.specs.declared.vars.BlockVar.{BlockVar}
use Rattle.exodus_mesh.specs.declared.vars.MeshVars.{MeshVars}
use Rattle.exodus_mesh.specs.Names.{◌>>=◌, found_or}
use Rattle.exodus_mesh.specs.VarLens.{same_len, var_len, var_lens}
use Rattle.exodus_mesh.specs.MeshNames.{place_of, coord_in, whole_nodes, split_nodes, nodes_in, block_count_in, block_in, blocks_in, mesh_vars_in}
use Rattle.exodus_mesh.specs.Found.{IsIntVar, AreCoordVars, IsBlockVar}
use Rattle.exodus_mesh.proofs.NumberVars.{value_ok, ok_same, var_len_ok, var_lens_ok, same_ok}

whole_ok : (file : NcFile) (coord n : ℕ) → whole_nodes file coord ≡ Ok n → IsIntVar file (3 ∷ n ∷ []) coord
unfolding whole_nodes
whole_ok file coord n h =
    let p = value_ok (var_lens file Int Coord coord) (λ both. same_len Coord 3 both.0 >>= λ three. Ok both.1) n h in
    let q = value_ok (same_len Coord 3 (p.0).0) (λ three. Ok (p.0).1) n p.2 in
    let three : (p.0).0 ≡ 3 = (same_ok Coord 3 (p.0).0 q.0 q.1).0 in
    let last : (p.0).1 ≡ n = ok_same (p.0).1 n q.2 in
    subst (λ (k : ℕ). IsIntVar file (3 ∷ k ∷ []) coord) last (subst (λ (k : ℕ). IsIntVar file (k ∷ (p.0).1 ∷ []) coord) three (var_lens_ok file Int Coord coord p.0 p.1))

split_ok : (file : NcFile) (x y z n : ℕ) → split_nodes file x y z ≡ Ok n → AreCoordVars file n (Split x y z)
unfolding split_nodes
split_ok file x y z n h =
    let p = value_ok (var_len file Int CoordX x) (λ nodes. var_len file Int CoordY y >>= λ along_y. same_len CoordY nodes along_y >>= λ same_y. var_len file Int CoordZ z >>= λ along_z. same_len CoordZ nodes along_z) n h in
    let q = value_ok (var_len file Int CoordY y) (λ along_y. same_len CoordY p.0 along_y >>= λ same_y. var_len file Int CoordZ z >>= λ along_z. same_len CoordZ p.0 along_z) n p.2 in
    let r = value_ok (same_len CoordY p.0 q.0) (λ same_y. var_len file Int CoordZ z >>= λ along_z. same_len CoordZ p.0 along_z) n q.2 in
    let s = value_ok (var_len file Int CoordZ z) (λ along_z. same_len CoordZ p.0 along_z) n r.2 in
    let on_y : q.0 ≡ p.0 = (same_ok CoordY p.0 q.0 r.0 r.1).0 in
    let on_z = same_ok CoordZ p.0 s.0 n s.2 in
    let on_x : p.0 ≡ n = sym on_z.0 ∙ on_z.1 in (
      subst (λ (k : ℕ). IsIntVar file (k ∷ []) x) on_x (var_len_ok file Int CoordX x p.0 p.1),
      subst (λ (k : ℕ). IsIntVar file (k ∷ []) y) (on_y ∙ on_x) (var_len_ok file Int CoordY y q.0 q.1),
      subst (λ (k : ℕ). IsIntVar file (k ∷ []) z) on_z.1 (var_len_ok file Int CoordZ z s.0 s.1),
    )

coords_ok : (file : NcFile) (coord : CoordVars) (n : ℕ) → nodes_in file coord ≡ Ok n → AreCoordVars file n coord
coords_ok file (Whole coord) n h = whole_ok file coord n h
coords_ok file (Split x y z) n h = split_ok file x y z n h

block_ok : (file : NcFile) (n : ℕ) (block : BlockVar) → block_in file n ≡ Ok block → IsBlockVar file block
unfolding block_in
block_ok file n block h =
    let p = value_ok (found_or (Missing (Connect n)) (place_of file (Connect n))) (λ place. var_lens file Int (Connect n) place >>= λ both. Ok (record { var = place; faces = both.0; width = both.1 })) block h in
    let q = value_ok (var_lens file Int (Connect n) p.0) (λ both. Ok (record { var = p.0; faces = both.0; width = both.1 })) block p.2 in
    let here : BlockVar = record { var = p.0; faces = (q.0).0; width = (q.0).1 } in
    subst (λ (b : BlockVar). IsBlockVar file b) (ok_same here block q.2) (var_lens_ok file Int (Connect n) p.0 q.0 q.1)

blocks_ok : (file : NcFile) (n : ℕ) (blocks : List BlockVar) → blocks_in file n ≡ Ok blocks → All (IsBlockVar file) blocks
blocks_ok file zero blocks h = let same : [] ≡ blocks = cc in subst (λ (l : List BlockVar). All (IsBlockVar file) l) same (All-nil (IsBlockVar file))
blocks_ok file (suc n) blocks h =
    let p = value_ok (blocks_in file n) (λ before. block_in file (suc n) >>= λ block. Ok (before ++ block ∷ [])) blocks h in
    let q = value_ok (block_in file (suc n)) (λ block. Ok (p.0 ++ block ∷ [])) blocks p.2 in
    subst (λ (l : List BlockVar). All (IsBlockVar file) l) (ok_same (p.0 ++ q.0 ∷ []) blocks q.2) (All-push (IsBlockVar file) p.0 q.0 (blocks_ok file n p.0 p.1) (block_ok file (suc n) q.0 q.1))

-- what the variables of a mesh are
pub record AreMeshVars (file : NcFile) (vars : MeshVars) : Type 0 where
  pub coord : AreCoordVars file vars.nodes vars.coord
  pub blocks : All (IsBlockVar file) vars.blocks
  pub faces : vars.faces ≡ sum_by (λ (b : BlockVar). b.faces) vars.blocks

pub mesh_vars_ok : (file : NcFile) (vars : MeshVars) → mesh_vars_in file ≡ Ok vars → AreMeshVars file vars
unfolding mesh_vars_in
mesh_vars_ok file vars h =
    let p = value_ok (coord_in file) (λ coord. nodes_in file coord >>= λ nodes. block_count_in file >>= λ count. blocks_in file count >>= λ blocks. Ok (record { coord = coord; nodes = nodes; blocks = blocks; faces = sum_by (λ (b : BlockVar). b.faces) blocks })) vars h in
    let q = value_ok (nodes_in file p.0) (λ nodes. block_count_in file >>= λ count. blocks_in file count >>= λ blocks. Ok (record { coord = p.0; nodes = nodes; blocks = blocks; faces = sum_by (λ (b : BlockVar). b.faces) blocks })) vars p.2 in
    let r = value_ok (block_count_in file) (λ count. blocks_in file count >>= λ blocks. Ok (record { coord = p.0; nodes = q.0; blocks = blocks; faces = sum_by (λ (b : BlockVar). b.faces) blocks })) vars q.2 in
    let s = value_ok (blocks_in file r.0) (λ blocks. Ok (record { coord = p.0; nodes = q.0; blocks = blocks; faces = sum_by (λ (b : BlockVar). b.faces) blocks })) vars r.2 in
    let here : MeshVars = record { coord = p.0; nodes = q.0; blocks = s.0; faces = sum_by (λ (b : BlockVar). b.faces) s.0 } in
    subst (λ (v : MeshVars). AreMeshVars file v) (ok_same here vars s.2)
    (record { coord = coords_ok file p.0 q.0 q.1; blocks = blocks_ok file r.0 s.0 s.1; faces = refl })
