use Rattle.std.proofs.Common.{◌≡◌, ◌+◌, length}
use Rattle.block_workers.specs.InPlace.{AllInPlace}
use Rattle.overlap_run.specs.Parts.{AreFirstBlocks, DoesBlockWait}
use Rattle.overlap_run.proofs.workers.gather.Given as goal

abbrev pub invariant-loop-block : goal.invariant-loop-block
invariant-loop-block g l = record {
  rest : AllInPlace (λ t. DoesBlockWait g.C.PieceList.holds g.C.PieceList.is_behind l.a l.b l.workers (length l.yielded + t)) l.block-iterator.rest.items;
  size : length l.yielded + length l.block-iterator.rest.items ≡ length l.fn.blocks.items;
  run : AreFirstBlocks g.C.PieceList.holds l.a l.b (length l.yielded) l.run;
}
