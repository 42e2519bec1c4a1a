use Rattle.std.proofs.lemmas.Result.{on_ok_weaker}
use Rattle.overlap_run.proofs.workers.SourceBlocksBlockJob.run.Goals as goal

pub returns-clause-kept : goal.returns-clause-kept
returns-clause-kept g c = on_ok_weaker c.counted_block.result (λ still s x. still c.args.self.now.a.now c.args.self.now.b.now s x) c.counted_block.ensures.kept
