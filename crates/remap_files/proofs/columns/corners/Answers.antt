use Rattle.std.proofs.Common.{◌∙◌, ◌++◌, ap, sym, subst, take, All}
use Rattle.clip.specs.declared.pieces.Piece.{Piece}
use Rattle.clip.specs.Columns.{corner_numbers, corner_column}
use Rattle.remap_files.specs.OverlapDocument.{IsCorner}
use Rattle.remap_files.proofs.Taken.{all_more, flat_more}
use Rattle.remap_files.proofs.columns.corners.Goals as goal

pub loop-piece-preserved : goal.loop-piece-preserved
loop-piece-preserved c =
    let pieces = c.args.pieces.now in
    let i = c.loop-piece.piece-index in
    let p = c.piece-item.result in
    record {
      values = c.in_ok-put_piece.ensures.values ∙ ap (λ l. l ++ corner_numbers p) c.loop-piece.invariant.values ∙ ap (λ (q : Piece). corner_column (take i pieces) ++ corner_numbers q) c.piece-item.is ∙ sym (flat_more corner_numbers pieces i p c.loop-piece-test.true);
      typed = all_more (λ (q : Piece). All IsCorner q.corners) pieces i p c.loop-piece-test.true c.loop-piece.invariant.typed (subst (λ (q : Piece). All IsCorner q.corners) c.piece-item.is c.in_ok-put_piece.ensures.typed);
    }
