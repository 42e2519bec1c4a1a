use Rattle.std.proofs.Common.{◌≡◌, ◌∙◌, ap, sym, subst, map, length, ℕ, ℤ, List, All, Result, Ok}
use Rattle.std.specs.Prelude.{IfOk, IfErr}
use Rattle.clip.specs.Overlaps.{OverlapParts}
use Rattle.remap_files.specs.declared.vars.OverlapVars.{OverlapVars}
use Rattle.exodus_mesh.specs.declared.faults.FileFault.{FileFault}
use Rattle.exodus_mesh.specs.declared.faults.FileFault.TheVariants.{NoMemory}
use Rattle.nc_format.specs.Answers.{IsFaultOf}
use Rattle.exodus_mesh.specs.Found.{IsSomeIntVar}
use Rattle.remap_files.specs.OverlapRows.{overlap_of}
use Rattle.remap_files.specs.OverlapIn.{lists_in, overlap_in}
use Rattle.remap_files.proofs.FoundOverlap.{AreOverlapVars, overlap_vars_ok}
use Rattle.remap_files.proofs.ReadOverlaps.{overlap_in_is, names_refused}
use Rattle.remap_files.proofs.reading.read_overlap.Goals as goal

pub find_overlap-requires : goal.find_overlap-requires
find_overlap-requires c = record { sound = c.law_first_fault.ensures.sound c.args.bytes.now (length c.args.bytes.now) c.args.file.now c.requires.header }

pub returns-in-Err-clause-fault : goal.returns-in-Err-clause-fault
returns-in-Err-clause-fault c =
    subst (IsFaultOf NoMemory (overlap_in c.args.file.now c.args.bytes.now)) (sym c.file_fault.ensures.fault) (names_refused c.args.file.now c.args.bytes.now c.in-Err.fault c.in-Err.ensures.fault)

pub read_lists-requires-clause-vars : goal.read_lists-requires-clause-vars
read_lists-requires-clause-vars c =
    let are : AreOverlapVars c.args.file.now c.in-Ok.vars = overlap_vars_ok c.args.file.now c.in-Ok.vars c.in-Ok.ensures.vars in
    let same : c.deref.result.now ≡ c.in-Ok.vars.vars = c.deref.ensures.value ∙ ap (λ (v : OverlapVars). v.vars) c.vars.view_is in
    subst (λ (l : List ℕ). All (IsSomeIntVar c.args.file.now) l) (sym same) are.vars

pub overlap_from-requires-clause-source_faces : goal.overlap_from-requires-clause-source_faces
overlap_from-requires-clause-source_faces c = (overlap_vars_ok c.args.file.now c.in-Ok.vars c.in-Ok.ensures.vars).source_faces

pub overlap_from-requires-clause-target_faces : goal.overlap_from-requires-clause-target_faces
overlap_from-requires-clause-target_faces c = (overlap_vars_ok c.args.file.now c.in-Ok.vars c.in-Ok.ensures.vars).target_faces

pub overlap_from-requires-clause-pieces : goal.overlap_from-requires-clause-pieces
overlap_from-requires-clause-pieces c = (overlap_vars_ok c.args.file.now c.in-Ok.vars c.in-Ok.ensures.vars).pieces

pub overlap_from-requires-clause-lists : goal.overlap_from-requires-clause-lists
overlap_from-requires-clause-lists c =
    let are : AreOverlapVars c.args.file.now c.in-Ok.vars = overlap_vars_ok c.args.file.now c.in-Ok.vars c.in-Ok.ensures.vars in
    let same : c.deref.result.now ≡ c.in-Ok.vars.vars = c.deref.ensures.value ∙ ap (λ (v : OverlapVars). v.vars) c.vars.view_is in
    let lists : c.deref-2.result.now ≡ lists_in c.args.file.now c.args.bytes.now c.in-Ok.vars.vars = c.deref-2.ensures.value ∙ c.in_ok-lists.ensures ∙ ap (lists_in c.args.file.now c.args.bytes.now) same in
    ap (λ (l : List (List ℤ)). map length l) lists ∙ are.lens c.args.bytes.now c.requires.header

pub returns-clause-overlap : goal.returns-clause-overlap
returns-clause-overlap c =
    let file = c.args.file.now in
    let bytes = c.args.bytes.now in
    let v = c.in-Ok.vars in
    let same : c.deref.result.now ≡ v.vars = c.deref.ensures.value ∙ ap (λ (w : OverlapVars). w.vars) c.vars.view_is in
    let lists : c.deref-2.result.now ≡ lists_in file bytes v.vars = c.deref-2.ensures.value ∙ c.in_ok-lists.ensures ∙ ap (lists_in file bytes) same in
    let is : overlap_of v c.deref-2.result.now ≡ overlap_in file bytes = ap (overlap_of v) lists ∙ sym (overlap_in_is file bytes v c.in-Ok.ensures.vars) in
    subst (λ (r : Result OverlapParts FileFault). IfOk c.overlap_from.result (λ overlap. r ≡ Ok overlap)) is c.overlap_from.ensures.overlap

pub returns-clause-fault : goal.returns-clause-fault
returns-clause-fault c =
    let file = c.args.file.now in
    let bytes = c.args.bytes.now in
    let v = c.in-Ok.vars in
    let same : c.deref.result.now ≡ v.vars = c.deref.ensures.value ∙ ap (λ (w : OverlapVars). w.vars) c.vars.view_is in
    let lists : c.deref-2.result.now ≡ lists_in file bytes v.vars = c.deref-2.ensures.value ∙ c.in_ok-lists.ensures ∙ ap (lists_in file bytes) same in
    let is : overlap_of v c.deref-2.result.now ≡ overlap_in file bytes = ap (overlap_of v) lists ∙ sym (overlap_in_is file bytes v c.in-Ok.ensures.vars) in
    subst (λ (r : Result OverlapParts FileFault). IfErr c.overlap_from.result (IsFaultOf NoMemory r)) is c.overlap_from.ensures.fault
