use Rattle.std.proofs.Common.{◌∙◌, ◌++◌, [], map, pos, ap}
use Rattle.clip.specs.declared.pieces.Piece.{Piece}
use Rattle.clip.specs.Columns.{ring_numbers}
use Rattle.remap_files.proofs.Taken.{flat_step}
use Rattle.remap_files.proofs.columns.ring_planes.Goals as goal

pub loop-piece-preserved : goal.loop-piece-preserved
loop-piece-preserved c =
    let so_far = c.loop-piece.values.items in
    flat_step ring_numbers c.args.pieces.now c.loop-piece.piece-index c.piece-item.result [] so_far c.put_ring.new.values.items c.loop-piece-test.true c.loop-piece.invariant
    (c.in_ok-put_ring.ensures ∙ ap (λ l. so_far ++ map (λ n. pos n) l) c.as_slice.ensures.value ∙ ap (λ (q : Piece). so_far ++ ring_numbers q) c.piece-item.is)
