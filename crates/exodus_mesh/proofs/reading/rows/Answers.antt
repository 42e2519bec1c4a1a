use Rattle.std.proofs.Common.{◌≡◌, ◌∙◌, ap, sym, subst, map, List, ℕ, ℤ, All}
use Rattle.std.specs.Prelude.{IfOk}
use Rattle.exodus_mesh.specs.Found.{IsSomeIntVar}
use Rattle.exodus_mesh.specs.MeshIn.{values_in, block_places, rows_in}
use Rattle.exodus_mesh.proofs.Lists.{blocks_ints, rows_are}
use Rattle.exodus_mesh.proofs.reading.rows.Goals as goal

pub read_lists-requires-clause-vars : goal.read_lists-requires-clause-vars
read_lists-requires-clause-vars c =
    let same : c.deref.result.now ≡ block_places c.args.blocks.now = c.deref.ensures.value ∙ c.in_ok-places.ensures in
    subst (λ (l : List ℕ). All (IsSomeIntVar c.args.file.now) l) (sym same) (blocks_ints c.args.file.now c.args.blocks.now c.requires.vars)

pub returns : goal.returns
returns c =
    let same : c.deref.result.now ≡ block_places c.args.blocks.now = c.deref.ensures.value ∙ c.in_ok-places.ensures in
    let is : map (values_in c.args.file.now c.args.bytes.now) c.deref.result.now ≡ rows_in c.args.file.now c.args.bytes.now c.args.blocks.now =
    ap (map (values_in c.args.file.now c.args.bytes.now)) same ∙ rows_are c.args.file.now c.args.bytes.now c.args.blocks.now in
    subst (λ (l : List (List ℤ)). IfOk c.read_lists.result (λ lists. lists.items ≡ l)) is c.read_lists.ensures
