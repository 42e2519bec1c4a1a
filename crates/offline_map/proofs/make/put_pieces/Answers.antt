use Rattle.std.proofs.Common.{◌≡◌, IfErr, Err, rules, arith, sym, subst}
use Rattle.offline_map.specs.MapFaults.{IsFaultOfPieces}
use Rattle.offline_map.proofs.Makings.{one_piece_more, one_right_piece_more, fault_of_next}
use Rattle.offline_map.proofs.make.put_pieces.Goals as goal

pub returns-in_err-put-clause-fault : goal.returns-in_err-put-clause-fault
returns-in_err-put-clause-fault c =
    let a = c.args.maker.now.a in
    let b = c.args.maker.now.b in
    let pieces = c.args.pieces.now in
    let found = c.in_err-put.field-0.0 in
    let gives : c.from_residual.result ≡ Err found = search rules in
    let known = fault_of_next a b c.loop-piece.maker pieces c.loop-piece.piece-index c.piece-item.result found c.loop-piece.invariant.made (omega arith) c.piece-item.is c.loop-piece.invariant.right c.in_err-put.ensures.fault in
    subst (λ r. IfErr r (IsFaultOfPieces a b pieces)) (sym gives) known

pub loop-piece-preserved : goal.loop-piece-preserved
loop-piece-preserved c =
    let a = c.args.maker.now.a in
    let b = c.args.maker.now.b in
    let pieces = c.args.pieces.now in
    let i = c.loop-piece.piece-index in
    let made = c.loop-piece.invariant.made in
    record {
      made = one_piece_more a b c.loop-piece.maker c.put.new.self pieces i c.piece-item.result made (omega arith) c.piece-item.is c.in_ok-put.ensures.row;
      right = one_right_piece_more a b c.loop-piece.maker pieces i c.piece-item.result made (omega arith) c.piece-item.is c.loop-piece.invariant.right c.in_ok-put.ensures.right;
    }
