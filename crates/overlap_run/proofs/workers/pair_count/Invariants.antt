use Rattle.overlap_run.specs.Parts.{IsFirstCount}
use Rattle.overlap_run.proofs.workers.pair_count.Given as goal

abbrev pub invariant-loop-block : goal.invariant-loop-block
invariant-loop-block g l = IsFirstCount l.a l.b l.block-index l.count
