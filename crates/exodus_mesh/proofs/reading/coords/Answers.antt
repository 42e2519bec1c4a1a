use Rattle.std.proofs.Common.{◌≡◌, ◌∙◌, ap, sym, subst, map, List, ℕ, ℤ, All}
use Rattle.std.specs.Prelude.{IfOk}
use Rattle.exodus_mesh.specs.Found.{IsSomeIntVar}
use Rattle.exodus_mesh.specs.MeshIn.{values_in, coord_places, coords_in}
use Rattle.exodus_mesh.proofs.Lists.{coords_ints, coords_are}
use Rattle.exodus_mesh.proofs.reading.coords.Goals as goal

pub read_lists-requires-clause-vars : goal.read_lists-requires-clause-vars
read_lists-requires-clause-vars c =
    let same : c.deref.result.now ≡ coord_places c.args.coord = c.deref.ensures.value ∙ c.in_ok-places.ensures in
    subst (λ (l : List ℕ). All (IsSomeIntVar c.args.file.now) l) (sym same) (coords_ints c.args.file.now c.requires.vars.0 c.args.coord c.requires.vars.1)

pub returns : goal.returns
returns c =
    let same : c.deref.result.now ≡ coord_places c.args.coord = c.deref.ensures.value ∙ c.in_ok-places.ensures in
    let is : map (values_in c.args.file.now c.args.bytes.now) c.deref.result.now ≡ coords_in c.args.file.now c.args.bytes.now c.args.coord =
    ap (map (values_in c.args.file.now c.args.bytes.now)) same ∙ coords_are c.args.file.now c.args.bytes.now c.args.coord in
    subst (λ (l : List (List ℤ)). IfOk c.read_lists.result (λ lists. lists.items ≡ l)) is c.read_lists.ensures
