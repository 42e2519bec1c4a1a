use Rattle.std.proofs.lemmas.List.Elements.{All-contains}
use Rattle.block_workers.specs.FinishedBlocks.{IsRight}
use Rattle.block_workers.specs.InParts.{IsPlacedBy}
use Rattle.block_workers.proofs.run.run_blocks.Goals as goal

pub returns-clause-each : goal.returns-clause-each
returns-clause-each g c =
    λ s d below.
    (All-contains (IsRight c.in_ok-word.word.blocks (IsPlacedBy (g.J.BlockJob.gives c.args.job.now) c.in_ok-all.all.parts.items)) c.in_ok-all.all.finished.items _ c.in_ok-all.ensures.shares.right
    (c.in_ok-blocks.ensures.own s d below)).1
