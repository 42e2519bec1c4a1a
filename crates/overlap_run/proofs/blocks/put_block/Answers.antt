use Rattle.std.proofs.Common.{refl, arith}
use Rattle.std.proofs.lemmas.Result.{on_ok_weaker}
use Rattle.overlap_run.proofs.Stretches.{numbered_counted, waits_on}
use Rattle.overlap_run.proofs.blocks.put_block.Goals as goal

pub returns-then-own-gt-GREATEST_COUNT-clause-block : goal.returns-then-own-gt-GREATEST_COUNT-clause-block
returns-then-own-gt-GREATEST_COUNT-clause-block g c = λ a b s h. record {
  counted = numbered_counted g.C.PieceList.holds a b s c.args.block _ refl h;
  stands = λ l. absurd (omega (arith, l, c.if-own-gt-GREATEST_COUNT.true));
}

pub returns-then-own-gt-GREATEST_COUNT-clause-kept : goal.returns-then-own-gt-GREATEST_COUNT-clause-kept
returns-then-own-gt-GREATEST_COUNT-clause-kept g c =
    waits_on g.C.PieceList.holds g.C.PieceList.is_behind c.args.own.now _ (λ l. absurd (omega (arith, l, c.if-own-gt-GREATEST_COUNT.true))) (λ l. absurd (omega (arith, l, c.if-own-gt-GREATEST_COUNT.true)))

pub returns-clause-kept : goal.returns-clause-kept
returns-clause-kept g c =
    on_ok_weaker c.put_pieces.result
    (λ still. waits_on g.C.PieceList.holds g.C.PieceList.is_behind c.args.own.now _ (λ l. omega (arith, l, c.saturating_add-own.ensures)) (λ l. still)) c.put_pieces.ensures.kept
