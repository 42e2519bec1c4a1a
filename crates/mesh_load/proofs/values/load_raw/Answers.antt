use Rattle.std.proofs.Common.{◌≡◌, ◌∙◌, ap, sym, map, length, subst, ap₂, ℕ, List, All, Option}
use Rattle.vec_exact.specs.declared.RawMesh.{RawMesh}
use Rattle.remap_io.specs.Folder.{Folder, OnFile}
use Rattle.exodus_mesh.specs.declared.vars.MeshVars.{MeshVars}
use Rattle.exodus_mesh.specs.MeshValues.{mesh_of}
use Rattle.exodus_mesh.proofs.FoundVars.{AreMeshVars, mesh_vars_ok}
use Rattle.remap_load.specs.Pieces.{numbers_at}
use Rattle.remap_load.proofs.Contents.{filled}
use Rattle.exodus_mesh.specs.MeshIn.{coord_places}
use Rattle.mesh_load.proofs.Raw.{HasInts, place_of, coords_ints, blocks_ints, coords_long, rows_long, raw_reads, raw_is}
use Rattle.mesh_load.proofs.RawCounts.{raw_nodes, raw_faces}
use Rattle.mesh_load.proofs.values.load_raw.Goals as goal

pub load_lists-requires-clause-vars : goal.load_lists-requires-clause-vars
load_lists-requires-clause-vars g c =
    let file = c.args.head.now.file in
    let vars = c.args.vars.now in
    let are : AreMeshVars file vars = mesh_vars_ok file vars c.requires.found in
    let coord_at : c.deref.result.now ≡ coord_places c.args.vars.now.coord = c.deref.ensures.value ∙ c.in_ok-places.ensures ∙ ap (λ (v : MeshVars). coord_places v.coord) c.vars.view_is in
    subst (λ (l : List ℕ). All (HasInts file) l) (sym coord_at) (coords_ints file vars.nodes vars.coord are.coord)

pub load_lists-requires-2-clause-vars : goal.load_lists-requires-2-clause-vars
load_lists-requires-2-clause-vars g c =
    let file = c.args.head.now.file in
    let vars = c.args.vars.now in
    let are : AreMeshVars file vars = mesh_vars_ok file vars c.requires.found in
    let row_at : c.deref-3.result.now ≡ map place_of c.args.vars.now.blocks = c.deref-3.ensures.value ∙ c.in_ok-places-2.ensures ∙ ap (map place_of) (c.deref-2.ensures.value ∙ ap (λ (v : MeshVars). v.blocks) c.vars.view_is) in
    subst (λ (l : List ℕ). All (HasInts file) l) (sym row_at) (blocks_ints file vars.blocks are.blocks)

pub returns-in_err-rows-clause-reads : goal.returns-in_err-rows-clause-reads
returns-in_err-rows-clause-reads g c =
    let file = c.args.head.now.file in
    let vars = c.args.vars.now in
    let coord_at : c.deref.result.now ≡ coord_places c.args.vars.now.coord = c.deref.ensures.value ∙ c.in_ok-places.ensures ∙ ap (λ (v : MeshVars). coord_places v.coord) c.vars.view_is in
    let row_at : c.deref-3.result.now ≡ map place_of c.args.vars.now.blocks = c.deref-3.ensures.value ∙ c.in_ok-places-2.ensures ∙ ap (map place_of) (c.deref-2.ensures.value ∙ ap (λ (v : MeshVars). v.blocks) c.vars.view_is) in
    raw_reads file vars (g.F.Files.seen c.args.files.now) (g.F.Files.seen c.load_lists.new.files) (g.F.Files.seen c.load_lists-2.new.files) c.deref.result.now c.deref-3.result.now coord_at row_at c.load_lists.ensures.reads c.load_lists-2.ensures.reads

pub returns-in_err-mesh_from-clause-reads : goal.returns-in_err-mesh_from-clause-reads
returns-in_err-mesh_from-clause-reads g c =
    let file = c.args.head.now.file in
    let vars = c.args.vars.now in
    let coord_at : c.deref.result.now ≡ coord_places c.args.vars.now.coord = c.deref.ensures.value ∙ c.in_ok-places.ensures ∙ ap (λ (v : MeshVars). coord_places v.coord) c.vars.view_is in
    let row_at : c.deref-3.result.now ≡ map place_of c.args.vars.now.blocks = c.deref-3.ensures.value ∙ c.in_ok-places-2.ensures ∙ ap (map place_of) (c.deref-2.ensures.value ∙ ap (λ (v : MeshVars). v.blocks) c.vars.view_is) in
    raw_reads file vars (g.F.Files.seen c.args.files.now) (g.F.Files.seen c.load_lists.new.files) (g.F.Files.seen c.load_lists-2.new.files) c.deref.result.now c.deref-3.result.now coord_at row_at c.load_lists.ensures.reads c.load_lists-2.ensures.reads

pub returns-clause-reads : goal.returns-clause-reads
returns-clause-reads g c =
    let file = c.args.head.now.file in
    let vars = c.args.vars.now in
    let coord_at : c.deref.result.now ≡ coord_places c.args.vars.now.coord = c.deref.ensures.value ∙ c.in_ok-places.ensures ∙ ap (λ (v : MeshVars). coord_places v.coord) c.vars.view_is in
    let row_at : c.deref-3.result.now ≡ map place_of c.args.vars.now.blocks = c.deref-3.ensures.value ∙ c.in_ok-places-2.ensures ∙ ap (map place_of) (c.deref-2.ensures.value ∙ ap (λ (v : MeshVars). v.blocks) c.vars.view_is) in
    raw_reads file vars (g.F.Files.seen c.args.files.now) (g.F.Files.seen c.load_lists.new.files) (g.F.Files.seen c.load_lists-2.new.files) c.deref.result.now c.deref-3.result.now coord_at row_at c.load_lists.ensures.reads c.load_lists-2.ensures.reads

pub mesh_from-requires-clause-coords : goal.mesh_from-requires-clause-coords
mesh_from-requires-clause-coords g c =
    let file = c.args.head.now.file in
    let vars = c.args.vars.now in
    let are : AreMeshVars file vars = mesh_vars_ok file vars c.requires.found in
    let coord_at : c.deref.result.now ≡ coord_places c.args.vars.now.coord = c.deref.ensures.value ∙ c.in_ok-places.ensures ∙ ap (λ (v : MeshVars). coord_places v.coord) c.vars.view_is in
    let some = filled c.args.head.now c.requires.head in
    coords_long file some.0 vars.nodes vars.coord c.deref.result.now c.deref-4.result.now some.1 are.coord coord_at (ap (map length) c.deref-4.ensures.value ∙ c.in_ok-coords.ensures.lens)

pub mesh_from-requires-clause-rows : goal.mesh_from-requires-clause-rows
mesh_from-requires-clause-rows g c =
    let file = c.args.head.now.file in
    let vars = c.args.vars.now in
    let are : AreMeshVars file vars = mesh_vars_ok file vars c.requires.found in
    let row_at : c.deref-3.result.now ≡ map place_of c.args.vars.now.blocks = c.deref-3.ensures.value ∙ c.in_ok-places-2.ensures ∙ ap (map place_of) (c.deref-2.ensures.value ∙ ap (λ (v : MeshVars). v.blocks) c.vars.view_is) in
    let some = filled c.args.head.now c.requires.head in
    rows_long file some.0 vars.blocks c.deref-3.result.now c.deref-5.result.now some.1 are.blocks row_at (ap (map length) c.deref-5.ensures.value ∙ c.in_ok-rows.ensures.lens)

pub returns-clause-mesh : goal.returns-clause-mesh
returns-clause-mesh g c =
    let file = c.args.head.now.file in
    let vars = c.args.vars.now in
    let coord_at : c.deref.result.now ≡ coord_places c.args.vars.now.coord = c.deref.ensures.value ∙ c.in_ok-places.ensures ∙ ap (λ (v : MeshVars). coord_places v.coord) c.vars.view_is in
    let row_at : c.deref-3.result.now ≡ map place_of c.args.vars.now.blocks = c.deref-3.ensures.value ∙ c.in_ok-places-2.ensures ∙ ap (map place_of) (c.deref-2.ensures.value ∙ ap (λ (v : MeshVars). v.blocks) c.vars.view_is) in
    let name = c.args.name.now in
    let folder = (g.F.Files.seen c.args.files.now).folder in
    let rows : OnFile folder name (λ bytes. map (λ l. l) c.in_ok-rows.rows.items ≡ map (numbers_at file bytes) c.deref-3.result.now) =
    subst (λ (m : Option Folder). OnFile m name (λ bytes. map (λ l. l) c.in_ok-rows.rows.items ≡ map (numbers_at file bytes) c.deref-3.result.now)) c.load_lists.ensures.reads.reads.same_folder c.in_ok-rows.ensures.values in
    raw_is file vars folder name c.deref.result.now c.deref-3.result.now c.in_ok-coords.coords.items c.in_ok-rows.rows.items c.in_ok-mesh_from.field-0 coord_at row_at c.in_ok-coords.ensures.values rows
    (c.in_ok-mesh_from.ensures.mesh ∙ ap₂ (mesh_of vars) c.deref-4.ensures.value c.deref-5.ensures.value)

pub returns-clause-nodes : goal.returns-clause-nodes
returns-clause-nodes g c =
    ap (λ (m : RawMesh). length m.nodes) c.in_ok-mesh_from.ensures.mesh ∙ raw_nodes c.args.vars.now c.deref-4.result.now c.deref-5.result.now

pub returns-clause-faces : goal.returns-clause-faces
returns-clause-faces g c =
    let file = c.args.head.now.file in
    let vars = c.args.vars.now in
    let are : AreMeshVars file vars = mesh_vars_ok file vars c.requires.found in
    let row_at : c.deref-3.result.now ≡ map place_of c.args.vars.now.blocks = c.deref-3.ensures.value ∙ c.in_ok-places-2.ensures ∙ ap (map place_of) (c.deref-2.ensures.value ∙ ap (λ (v : MeshVars). v.blocks) c.vars.view_is) in
    let some = filled c.args.head.now c.requires.head in
    ap (λ (m : RawMesh). length m.faces) c.in_ok-mesh_from.ensures.mesh
    ∙ raw_faces file vars c.deref-4.result.now c.deref-5.result.now are (rows_long file some.0 vars.blocks c.deref-3.result.now c.deref-5.result.now some.1 are.blocks row_at (ap (map length) c.deref-5.ensures.value ∙ c.in_ok-rows.ensures.lens))
