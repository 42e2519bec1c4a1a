use Rattle.std.proofs.lemmas.Result.{err_from_is_err_and}
use Rattle.exodus_mesh.proofs.Blocks.{refused_from}
use Rattle.exodus_mesh.proofs.finding.find_blocks.Goals as goal

pub returns-in_err-find_block : goal.returns-in_err-find_block
returns-in_err-find_block c =
    let fault = c.in_err-find_block.field-0.0 in
    let p = err_from_is_err_and c.from_residual-in_err-find_block.result c.from_residual-in_err-find_block.ensures.1 in
    rw (p.1, p.2) (refused_from c.args.file.now c.loop-number.number c.args.count c.loop-number.blocks.items fault c.loop-number.invariant c.loop-number-test.true c.in_err-find_block.ensures)
