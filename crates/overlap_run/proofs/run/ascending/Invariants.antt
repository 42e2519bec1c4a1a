use Rattle.std.proofs.Common.{◌≡◌, ◌+◌}
use Rattle.overlap_run.specs.Parts.{AreFirstBlocks}
use Rattle.overlap_run.proofs.NumberedBlocks.{clipped}
use Rattle.overlap_run.proofs.run.ascending.Given as goal

abbrev pub invariant-loop-s : goal.invariant-loop-s
invariant-loop-s g l = record {
  run : AreFirstBlocks g.C.PieceList.holds l.a l.b l.s l.run;
  ticks : l.steps ≡ l.initial.steps + clipped l.a l.b l.s;
}
