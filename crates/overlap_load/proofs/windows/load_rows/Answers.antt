use Rattle.std.proofs.Common.{◌≡◌, ◌∙◌, ap, sym, subst, List, ℕ, All, take, map}
use Rattle.std.proofs.lemmas.List.Elements.{All-take}
use Rattle.exodus_mesh.specs.Found.{IsSomeIntVar}
use Rattle.remap_files.specs.declared.vars.OverlapVars.{OverlapVars}
use Rattle.remap_files.proofs.FoundOverlap.{overlap_vars_ok}
use Rattle.remap_load.specs.Pieces.{count_at}
use Rattle.remap_load.proofs.Reading.{each_ok}
use Rattle.overlap_load.proofs.Values.{all_ints, lists_are}
use Rattle.overlap_load.proofs.Windowed.{first_four, four_lens}
use Rattle.overlap_load.proofs.windows.load_rows.Goals as goal

pub load_lists-requires-clause-vars : goal.load_lists-requires-clause-vars
load_lists-requires-clause-vars g c =
    let file = c.args.head.now.file in
    let vars = c.args.vars.now.vars in
    let places : c.as_slice-places.result.now ≡ vars = c.as_slice-places.ensures.value ∙ ap (λ (v : OverlapVars). v.vars) c.vars.view_is in
    let four : c.split_at.result.0.now ≡ take 4 vars = first_four c.as_slice-places.result.now c.split_at.result.0.now c.min.result c.min.ensures c.split_at.ensures.front ∙ ap (take 4) places in
    let all : All (IsSomeIntVar file) (take 4 vars) = All-take (IsSomeIntVar file) 4 vars (overlap_vars_ok file c.args.vars.now c.requires.found).vars in
    all_ints file c.split_at.result.0.now (subst (λ (l : List ℕ). All (IsSomeIntVar file) l) (sym four) all)

pub returns-clause-values : goal.returns-clause-values
returns-clause-values g c =
    let file = c.args.head.now.file in
    let vars = c.args.vars.now.vars in
    let folder = (g.F.Files.seen c.args.files.now).folder in
    let places : c.as_slice-places.result.now ≡ vars = c.as_slice-places.ensures.value ∙ ap (λ (v : OverlapVars). v.vars) c.vars.view_is in
    let four : c.split_at.result.0.now ≡ take 4 vars = first_four c.as_slice-places.result.now c.split_at.result.0.now c.min.result c.min.ensures c.split_at.ensures.front ∙ ap (take 4) places in
    each_ok _ _ c.load_lists.result (λ lists h. lists_are file folder c.args.name.now c.split_at.result.0.now (take 4 vars) lists.items four h) c.load_lists.ensures.values

pub returns-clause-lens : goal.returns-clause-lens
returns-clause-lens g c =
    let file = c.args.head.now.file in
    let vars = c.args.vars.now.vars in
    let places : c.as_slice-places.result.now ≡ vars = c.as_slice-places.ensures.value ∙ ap (λ (v : OverlapVars). v.vars) c.vars.view_is in
    let four : c.split_at.result.0.now ≡ take 4 vars = first_four c.as_slice-places.result.now c.split_at.result.0.now c.min.result c.min.ensures c.split_at.ensures.front ∙ ap (take 4) places in
    each_ok _ _ c.load_lists.result (λ lists h. h ∙ ap (map (count_at file)) four ∙ four_lens c.args.head.now c.args.vars.now c.requires.head c.requires.found) c.load_lists.ensures.lens
