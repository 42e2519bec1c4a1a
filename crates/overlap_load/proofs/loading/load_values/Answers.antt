use Rattle.std.proofs.Common.{◌≡◌, ◌∙◌, ap, sym, subst, List, ℕ, All}
use Rattle.exodus_mesh.specs.Found.{IsSomeIntVar}
use Rattle.remap_files.specs.declared.vars.OverlapVars.{OverlapVars}
use Rattle.remap_files.proofs.FoundOverlap.{AreOverlapVars, overlap_vars_ok}
use Rattle.remap_load.proofs.Contents.{filled}
use Rattle.remap_load.proofs.Reading.{each_ok}
use Rattle.overlap_load.proofs.Values.{all_ints, lists_are, lens_are}
use Rattle.overlap_load.proofs.loading.load_values.Goals as goal

pub load_lists-requires-clause-vars : goal.load_lists-requires-clause-vars
load_lists-requires-clause-vars g c =
    let file = c.args.head.now.file in
    let are : AreOverlapVars file c.args.vars.now = overlap_vars_ok file c.args.vars.now c.requires.found in
    let same : c.deref.result.now ≡ c.args.vars.now.vars = c.deref.ensures.value ∙ ap (λ (v : OverlapVars). v.vars) c.vars.view_is in
    all_ints file c.deref.result.now (subst (λ (l : List ℕ). All (IsSomeIntVar file) l) (sym same) are.vars)

pub returns-clause-values : goal.returns-clause-values
returns-clause-values g c =
    let file = c.args.head.now.file in
    let folder = (g.F.Files.seen c.args.files.now).folder in
    let same : c.deref.result.now ≡ c.args.vars.now.vars = c.deref.ensures.value ∙ ap (λ (v : OverlapVars). v.vars) c.vars.view_is in
    each_ok _ _ c.load_lists.result (λ lists h. lists_are file folder c.args.name.now c.deref.result.now c.args.vars.now.vars lists.items same h) c.load_lists.ensures.values

pub returns-clause-lens : goal.returns-clause-lens
returns-clause-lens g c =
    let file = c.args.head.now.file in
    let are : AreOverlapVars file c.args.vars.now = overlap_vars_ok file c.args.vars.now c.requires.found in
    let same : c.deref.result.now ≡ c.args.vars.now.vars = c.deref.ensures.value ∙ ap (λ (v : OverlapVars). v.vars) c.vars.view_is in
    let some = filled c.args.head.now c.requires.head in
    each_ok _ _ c.load_lists.result (λ lists h. lens_are file some.0 c.args.vars.now c.deref.result.now lists.items some.1 are same h) c.load_lists.ensures.lens
