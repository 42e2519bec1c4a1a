use Rattle.std.proofs.Common.{◌-◌, ◌<◌, refl, arith}
use Rattle.overlap_run.proofs.BlockSteps.{block_none}
use Rattle.overlap_run.proofs.RunSteps.{no_faces}
use Rattle.overlap_run.proofs.blocks.clip_block.Goals as goal

pub returns-clause-block : goal.returns-clause-block
returns-clause-block g c =
    let a = c.args.a.now in
    let b = c.args.b.now in
    let none : c.args.from - 1 < c.args.from = omega (arith, c.requires.from.0) in
    c.in_ok-extend_block.ensures.block c.args.from (omega arith) (block_none g.C.PieceList.holds a b _ (no_faces a b c.args.from (c.args.from - 1) none) _ refl c.none.ensures)
