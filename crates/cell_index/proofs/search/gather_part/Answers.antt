use Rattle.std.proofs.Common.{arith, refl, get_or}
use Rattle.cell_index.proofs.Searches.{gathers_start, gathers_more}
use Rattle.cell_index.proofs.search.gather_part.Goals as goal

pub loop-t-init : goal.loop-t-init
loop-t-init c = gathers_start c.args.found.now.items c.args.faces.now c.args.from

pub loop-t-preserved : goal.loop-t-preserved
loop-t-preserved c =
    let faces = c.args.faces.now in
    let t = c.loop-t.t in
    gathers_more c.args.found.now.items c.loop-t.found.items c.put_once.new.found.items faces c.args.from t (get_or faces t 0) (omega arith) c.loop-t.invariant refl c.in_ok-put_once.ensures
