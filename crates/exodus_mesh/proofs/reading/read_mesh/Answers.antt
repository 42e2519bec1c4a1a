use Rattle.std.proofs.Common.{◌≡◌, ◌∙◌, ap, sym, map, length, subst, ℤ, List, All}
use Rattle.std.specs.Prelude.{IfOk}
use Rattle.vec_exact.specs.declared.RawMesh.{RawMesh}
use Rattle.exodus_mesh.specs.declared.vars.BlockVar.{BlockVar}
use Rattle.exodus_mesh.specs.declared.vars.CoordVars.{CoordVars}
use Rattle.exodus_mesh.specs.declared.vars.MeshVars.{MeshVars}
use Rattle.exodus_mesh.specs.Found.{AreCoordVars, IsBlockVar}
use Rattle.exodus_mesh.specs.MeshValues.{mesh_of}
use Rattle.exodus_mesh.specs.MeshIn.{coords_in, rows_in}
use Rattle.exodus_mesh.proofs.FoundVars.{AreMeshVars, mesh_vars_ok}
use Rattle.exodus_mesh.proofs.VarValues.{coords_len, rows_len}
use Rattle.exodus_mesh.proofs.ReadValues.{is_mesh_in}
use Rattle.exodus_mesh.proofs.reading.read_mesh.Goals as goal

pub coords-requires-clause-vars : goal.coords-requires-clause-vars
coords-requires-clause-vars c =
    let are : AreMeshVars c.args.file.now c.args.vars.now = mesh_vars_ok c.args.file.now c.args.vars.now c.requires.found in
    let same : c.vars.inside.0.0 ≡ c.args.vars.now.coord = ap (λ (v : MeshVars). v.coord) c.vars.view_is in
    (c.args.vars.now.nodes, subst (λ (coord : CoordVars). AreCoordVars c.args.file.now c.args.vars.now.nodes coord) (sym same) are.coord)

pub rows-requires-clause-vars : goal.rows-requires-clause-vars
rows-requires-clause-vars c =
    let are : AreMeshVars c.args.file.now c.args.vars.now = mesh_vars_ok c.args.file.now c.args.vars.now c.requires.found in
    let same : c.deref.result.now ≡ c.args.vars.now.blocks = c.deref.ensures.value ∙ ap (λ (v : MeshVars). v.blocks) c.vars.view_is in
    subst (λ (l : List BlockVar). All (IsBlockVar c.args.file.now) l) (sym same) are.blocks

pub mesh_from-requires-clause-coords : goal.mesh_from-requires-clause-coords
mesh_from-requires-clause-coords c =
    let are : AreMeshVars c.args.file.now c.args.vars.now = mesh_vars_ok c.args.file.now c.args.vars.now c.requires.found in
    let same : c.vars.inside.0.0 ≡ c.args.vars.now.coord = ap (λ (v : MeshVars). v.coord) c.vars.view_is in
    let lists : c.in_ok-coords.coords.items ≡ coords_in c.args.file.now c.args.bytes.now c.vars.inside.0.0 = c.in_ok-coords.ensures in
    ap (λ (l : List (List ℤ)). map length l) (c.deref-2.ensures.value ∙ lists ∙ ap (coords_in c.args.file.now c.args.bytes.now) same)
    ∙ coords_len c.args.bytes.now c.args.file.now c.args.vars.now.nodes c.args.vars.now.coord c.requires.header are.coord

pub mesh_from-requires-clause-rows : goal.mesh_from-requires-clause-rows
mesh_from-requires-clause-rows c =
    let are : AreMeshVars c.args.file.now c.args.vars.now = mesh_vars_ok c.args.file.now c.args.vars.now c.requires.found in
    let same : c.deref.result.now ≡ c.args.vars.now.blocks = c.deref.ensures.value ∙ ap (λ (v : MeshVars). v.blocks) c.vars.view_is in
    let lists : c.in_ok-rows.rows.items ≡ rows_in c.args.file.now c.args.bytes.now c.deref.result.now = c.in_ok-rows.ensures in
    ap (λ (l : List (List ℤ)). map length l) (c.deref-3.ensures.value ∙ lists ∙ ap (rows_in c.args.file.now c.args.bytes.now) same)
    ∙ rows_len c.args.bytes.now c.args.file.now c.args.vars.now.blocks c.requires.header are.blocks

pub returns-clause-mesh_in : goal.returns-clause-mesh_in
returns-clause-mesh_in c =
    let file = c.args.file.now in
    let bytes = c.args.bytes.now in
    let vars = c.args.vars.now in
    let coord : c.vars.inside.0.0 ≡ vars.coord = ap (λ (v : MeshVars). v.coord) c.vars.view_is in
    let blocks : c.deref.result.now ≡ vars.blocks = c.deref.ensures.value ∙ ap (λ (v : MeshVars). v.blocks) c.vars.view_is in
    let coords : c.deref-2.result.now ≡ coords_in file bytes vars.coord = c.deref-2.ensures.value ∙ c.in_ok-coords.ensures ∙ ap (coords_in file bytes) coord in
    let rows : c.deref-3.result.now ≡ rows_in file bytes vars.blocks = c.deref-3.ensures.value ∙ c.in_ok-rows.ensures ∙ ap (rows_in file bytes) blocks in
    is_mesh_in file bytes vars c.mesh_from.result c.requires.found c.requires.counts
    (subst (λ (l : List (List ℤ)). IfOk c.mesh_from.result (λ (raw : RawMesh). raw ≡ mesh_of vars (coords_in file bytes vars.coord) l)) rows
    (subst (λ (l : List (List ℤ)). IfOk c.mesh_from.result (λ (raw : RawMesh). raw ≡ mesh_of vars l c.deref-3.result.now)) coords c.mesh_from.ensures.mesh))
