use Rattle.std.proofs.Common.{◌≡◌, ◌<◌, ◌+◌, ◌++◌, ◌∷◌, [], ℕ, List, Option, Some, Vec, Global, length, take, get_or, set, subst, sym, refl, ap, ◌∙◌, arith}
use Rattle.field_files.specs.FieldDocument.{each_once}
use Rattle.field_files.specs.NewPlaces.{ArePlacesOf}
use Rattle.field_files.proofs.EachOnce.{first_table, first_kept, few_kept, known_step, new_step, read_none, read_some}
use Rattle.field_files.proofs.frame.each_once.Goals as goal
use Rattle.field_files.proofs.frame.each_once.Goals.{then-is_none+in_ok-keep, else-is_none}

pub loop-id-init : goal.loop-id-init
loop-id-init c = record {
  ids = c.new-ids.ensures.items ∙ first_kept c.args.leading.now;
  places = subst (ArePlacesOf (each_once []) c.args.dim_count) (sym c.in_ok-places.ensures) (first_table c.args.leading.now c.args.dim_count);
}

pub keep-requires-clause-few : goal.keep-requires-clause-few
keep-requires-clause-few c =
    let few = few_kept c.args.leading.now c.loop-id.id-index (omega (arith, c.loop-id-test.true)) in
    omega (arith, few, ap length c.loop-id.invariant.ids, c.requires.few, c.loop-id-test.true)

pub loop-id-preserved : goal.loop-id-preserved
loop-id-preserved c =
    let leading = c.args.leading.now in
    let i = c.loop-id.id-index in
    let id = get_or leading i 0 in
    let small : id < c.args.dim_count = c.requires.ids i 0 c.loop-id-test.true in
    let table = c.loop-id.invariant.places in
    elim c.if-is_none.branch [
      | then-is_none+in_ok-keep w ↦
          let none = read_none c.loop-id.places.items id c.index.result.now c.index.ensures w.if-is_none.ensures in
          let s = new_step leading i id c.args.dim_count c.loop-id.places.items c.loop-id-test.true refl small table none in
          let ids : c.if-is_none.ids.items ≡ c.loop-id.ids.items ++ id ∷ [] = ap (λ (v : Vec ℕ Global). v.items) w.ids-is ∙ w.in_ok-keep.ensures.ids in
          let places : c.if-is_none.places.items ≡ set c.loop-id.places.items id (Some (length c.loop-id.ids.items)) = ap (λ (v : Vec (Option ℕ) Global). v.items) w.places-is ∙ w.in_ok-keep.ensures.places in
          let same : set c.loop-id.places.items id (Some (length c.loop-id.ids.items)) ≡ set c.loop-id.places.items id (Some (length (each_once (take i leading)))) =
          ap (λ (l : List ℕ). set c.loop-id.places.items id (Some (length l))) c.loop-id.invariant.ids in
          record {
            ids = ids ∙ ap (λ (l : List ℕ). l ++ id ∷ []) c.loop-id.invariant.ids ∙ sym s.kept;
            places = subst (ArePlacesOf (each_once (take (i + 1) leading)) c.args.dim_count) (sym (places ∙ same)) s.table;
          }
      | else-is_none w ↦
          let some = read_some c.loop-id.places.items id c.index.result.now (omega (arith, small, table.len)) c.index.ensures w.if-is_none.ensures in
          let kept = known_step leading i id c.args.dim_count some.0 c.loop-id.places.items c.loop-id-test.true refl small table some.1 in
          let ids : c.if-is_none.ids.items ≡ c.loop-id.ids.items = ap (λ (v : Vec ℕ Global). v.items) w.ids-is in
          let places : c.if-is_none.places.items ≡ c.loop-id.places.items = ap (λ (v : Vec (Option ℕ) Global). v.items) w.places-is in
          record {
            ids = ids ∙ c.loop-id.invariant.ids ∙ sym kept;
            places = subst (λ (l : List ℕ). ArePlacesOf l c.args.dim_count c.if-is_none.places.items) (sym kept) (subst (ArePlacesOf (each_once (take i leading)) c.args.dim_count) (sym places) table);
          }
    ]
