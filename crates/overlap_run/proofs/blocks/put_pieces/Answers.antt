use Rattle.std.proofs.Common.{◌++◌}
use Rattle.overlap_run.proofs.Stretches.{stands_still}
use Rattle.overlap_run.proofs.blocks.put_pieces.Goals as goal

pub returns-clause-kept : goal.returns-clause-kept
returns-clause-kept g c = stands_still g.C.PieceList.holds g.C.PieceList.is_behind _ c.args.block.pieces _ c.in_ok-append.ensures c.requires.pieces

pub returns-clause-list : goal.returns-clause-list
returns-clause-list g c =
    let old = c.requires.list in
    let own = c.requires.pieces in
    (old.0 ++ own.0, c.in_ok-append.ensures old.0 own.0 old.1 own.1)
