use Rattle.std.proofs.Common.{refl, get_or}
use Rattle.cell_index.proofs.Searches.{part_more}
use Rattle.cell_index.proofs.search.take_part.Goals as goal

pub loop-t-preserved : goal.loop-t-preserved
loop-t-preserved c =
    let faces = c.args.faces.now in
    let t = c.loop-t.t in
    part_more c.args.own.now.panel c.args.all.now c.args.found.now.items c.loop-t.found.items c.put_if.new.list.items faces c.args.from t (get_or faces t 0) c.is_sharer.result c.loop-t.invariant refl c.is_sharer.ensures
    c.in_ok-put_if.ensures
