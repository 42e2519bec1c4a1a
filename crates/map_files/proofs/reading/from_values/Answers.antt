use Rattle.std.proofs.Common.{◌≡◌, ◌∙◌, [], ◌∷◌, Ok, Result, ap, sym, subst, arith}
use Rattle.std.specs.Prelude.{IfOk, IfErr}
use Rattle.map_rows.specs.Maps.{MapParts}
use Rattle.nc_format.specs.Answers.{IsFaultOf}
use Rattle.exodus_mesh.specs.declared.faults.FileFault.{FileFault}
use Rattle.exodus_mesh.specs.declared.faults.FileFault.TheVariants.{NoMemory}
use Rattle.exodus_mesh.specs.MeshIn.{values_in}
use Rattle.exodus_mesh.specs.declared.kinds.NumberKind.TheVariants.{Long}
use Rattle.exodus_mesh.specs.VarLens.{IsNumberVar}
use Rattle.map_files.specs.declared.reading.RowNumbers.{RowNumbers}
use Rattle.map_files.proofs.FoundMap.{map_vars_ok}
use Rattle.map_files.proofs.ReadMaps.{map_of_lists, list_len}
use Rattle.map_files.proofs.reading.from_values.Goals as goal

pub place-requires : goal.place-requires
place-requires c = omega (arith, (map_vars_ok c.args.file.now c.args.vars.now c.requires.found).five)

pub read_longs-requires-clause-var : goal.read_longs-requires-clause-var
read_longs-requires-clause-var c =
    let v = c.args.vars.now in
    (v.n_a ∷ [], subst (IsNumberVar Long c.args.file.now (v.n_a ∷ [])) (sym c.place.ensures) (map_vars_ok c.args.file.now v c.requires.found).area_a)

pub place-requires-2 : goal.place-requires-2
place-requires-2 c = omega (arith, (map_vars_ok c.args.file.now c.args.vars.now c.requires.found).five)

pub read_longs-requires-2-clause-var : goal.read_longs-requires-2-clause-var
read_longs-requires-2-clause-var c =
    let v = c.args.vars.now in
    (v.n_b ∷ [], subst (IsNumberVar Long c.args.file.now (v.n_b ∷ [])) (sym c.place-2.ensures) (map_vars_ok c.args.file.now v c.requires.found).area_b)

pub map_from-requires-clause-source_faces : goal.map_from-requires-clause-source_faces
map_from-requires-clause-source_faces c = (map_vars_ok c.args.file.now c.args.vars.now c.requires.found).source_faces

pub map_from-requires-clause-target_faces : goal.map_from-requires-clause-target_faces
map_from-requires-clause-target_faces c = (map_vars_ok c.args.file.now c.args.vars.now c.requires.found).target_faces

pub map_from-requires-clause-rows : goal.map_from-requires-clause-rows
map_from-requires-clause-rows c = (map_vars_ok c.args.file.now c.args.vars.now c.requires.found).rows

pub map_from-requires-clause-col : goal.map_from-requires-clause-col
map_from-requires-clause-col c =
    let v = c.args.vars.now in
    list_len c.args.file.now c.args.bytes.now v 0 v.n_s c.deref.result.now c.requires.header (map_vars_ok c.args.file.now v c.requires.found).col
    (c.deref.ensures.value ∙ ap (λ (r : RowNumbers). r.col) c.rows.view_is ∙ c.in_ok-rows.ensures.col)

pub map_from-requires-clause-row : goal.map_from-requires-clause-row
map_from-requires-clause-row c =
    let v = c.args.vars.now in
    list_len c.args.file.now c.args.bytes.now v 1 v.n_s c.deref-2.result.now c.requires.header (map_vars_ok c.args.file.now v c.requires.found).row
    (c.deref-2.ensures.value ∙ ap (λ (r : RowNumbers). r.row) c.rows.view_is ∙ c.in_ok-rows.ensures.row)

pub map_from-requires-clause-s : goal.map_from-requires-clause-s
map_from-requires-clause-s c =
    let v = c.args.vars.now in
    list_len c.args.file.now c.args.bytes.now v 2 v.n_s c.deref-3.result.now c.requires.header (map_vars_ok c.args.file.now v c.requires.found).s
    (c.deref-3.ensures.value ∙ ap (λ (r : RowNumbers). r.s) c.rows.view_is ∙ c.in_ok-rows.ensures.s)

pub map_from-requires-clause-area_a : goal.map_from-requires-clause-area_a
map_from-requires-clause-area_a c =
    let v = c.args.vars.now in
    list_len c.args.file.now c.args.bytes.now v 3 v.n_a c.deref-4.result.now c.requires.header (map_vars_ok c.args.file.now v c.requires.found).area_a
    (c.deref-4.ensures.value ∙ c.area_a.view_is ∙ c.in_ok-area_a.ensures ∙ ap (values_in c.args.file.now c.args.bytes.now) c.place.ensures)

pub map_from-requires-clause-area_b : goal.map_from-requires-clause-area_b
map_from-requires-clause-area_b c =
    let v = c.args.vars.now in
    list_len c.args.file.now c.args.bytes.now v 4 v.n_b c.deref-5.result.now c.requires.header (map_vars_ok c.args.file.now v c.requires.found).area_b
    (c.deref-5.ensures.value ∙ c.area_b.view_is ∙ c.in_ok-area_b.ensures ∙ ap (values_in c.args.file.now c.args.bytes.now) c.place-2.ensures)

pub returns-clause-map : goal.returns-clause-map
returns-clause-map c =
    subst (λ (r : Result MapParts FileFault). IfOk c.map_from.result (λ map. r ≡ Ok map)) (map_of_lists c.args.file.now c.args.bytes.now c.args.vars.now _ _ _ _ _ c.requires.found
    (c.deref.ensures.value ∙ ap (λ (r : RowNumbers). r.col) c.rows.view_is ∙ c.in_ok-rows.ensures.col)
    (c.deref-2.ensures.value ∙ ap (λ (r : RowNumbers). r.row) c.rows.view_is ∙ c.in_ok-rows.ensures.row)
    (c.deref-3.ensures.value ∙ ap (λ (r : RowNumbers). r.s) c.rows.view_is ∙ c.in_ok-rows.ensures.s)
    (c.deref-4.ensures.value ∙ c.area_a.view_is ∙ c.in_ok-area_a.ensures ∙ ap (values_in c.args.file.now c.args.bytes.now) c.place.ensures)
    (c.deref-5.ensures.value ∙ c.area_b.view_is ∙ c.in_ok-area_b.ensures ∙ ap (values_in c.args.file.now c.args.bytes.now) c.place-2.ensures)) c.map_from.ensures.map

pub returns-clause-fault : goal.returns-clause-fault
returns-clause-fault c =
    subst (λ (r : Result MapParts FileFault). IfErr c.map_from.result (IsFaultOf NoMemory r)) (map_of_lists c.args.file.now c.args.bytes.now c.args.vars.now _ _ _ _ _ c.requires.found
    (c.deref.ensures.value ∙ ap (λ (r : RowNumbers). r.col) c.rows.view_is ∙ c.in_ok-rows.ensures.col)
    (c.deref-2.ensures.value ∙ ap (λ (r : RowNumbers). r.row) c.rows.view_is ∙ c.in_ok-rows.ensures.row)
    (c.deref-3.ensures.value ∙ ap (λ (r : RowNumbers). r.s) c.rows.view_is ∙ c.in_ok-rows.ensures.s)
    (c.deref-4.ensures.value ∙ c.area_a.view_is ∙ c.in_ok-area_a.ensures ∙ ap (values_in c.args.file.now c.args.bytes.now) c.place.ensures)
    (c.deref-5.ensures.value ∙ c.area_b.view_is ∙ c.in_ok-area_b.ensures ∙ ap (values_in c.args.file.now c.args.bytes.now) c.place-2.ensures)) c.map_from.ensures.fault
