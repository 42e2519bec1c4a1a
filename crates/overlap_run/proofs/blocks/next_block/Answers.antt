use Rattle.std.proofs.Common.{arith}
use Rattle.overlap_run.proofs.NumberedBlocks.{first_before, first_put, first_fits}
use Rattle.overlap_run.proofs.blocks.next_block.Goals as goal

pub extend_block-requires-clause-room : goal.extend_block-requires-clause-room
extend_block-requires-clause-room g c =
    first_fits g.C.PieceList.holds c.args.a.now c.args.b.now c.args.s c.requires.block c.args.run.now c.face_count-faces.ensures.accepted.counts.face_limit
    c.face_count-target_faces.ensures.accepted.counts.face_limit c.requires.run

pub returns-clause-run : goal.returns-clause-run
returns-clause-run g c =
    first_put g.C.PieceList.holds c.args.a.now c.args.b.now c.args.s c.requires.block c.args.run.now _ _ (omega (arith, c.min-to.ensures, c.face_count-faces.ensures.count)) c.requires.run
    (c.in_ok-extend_block.ensures.block 1 (omega arith) (first_before g.C.PieceList.holds c.args.a.now c.args.b.now c.args.s c.requires.block c.args.run.now c.requires.run)) c.in_ok-extend_block.ensures.few
