use Rattle.std.proofs.Common.{◌≡◌, ◌++◌, ◌∷◌, [], ℕ, List, length, get_or, sym, ap₂, ◌∙◌}
use Rattle.std.proofs.lemmas.List.{map_more}
use Rattle.field_files.specs.FieldDocument.{each_once, place_among}
use Rattle.field_files.proofs.EachOnce.{all_kept, place_read}
use Rattle.field_files.proofs.frame.field_ids.Goals as goal

pub loop-id-preserved : goal.loop-id-preserved
loop-id-preserved c =
    let leading = c.args.leading.now in
    let kept = each_once leading in
    let places = c.args.kept.now.places.items in
    let i = c.loop-id.id-index in
    let lt = c.loop-id-test.true in
    let place : c.unwrap_or.result ≡ place_among kept (get_or leading i 0) =
    place_read kept (length places) (get_or leading i 0) c.unwrap_or.result places c.index-place.result.now c.requires.places (c.requires.within i 0 lt) (all_kept leading i 0 lt) c.index-place.ensures c.unwrap_or.ensures in
    c.in_ok-push.ensures.items ∙ ap₂ (λ (l : List ℕ) (n : ℕ). l ++ n ∷ []) c.loop-id.invariant place ∙ sym (map_more (place_among kept) leading i 0 lt)
