use Rattle.std.proofs.Common.{◌∙◌, ◌++◌, [], pos, ◌+◌, get_or, ap, List, ℤ}
use Rattle.gen_ico.specs.Holding.{hits}
use Rattle.gen_ico.proofs.Tables.{empty_table, next_table, numbers_to}
use Rattle.gen_ico.proofs.holders.all_holders.Goals as goal

pub loop-t-init : goal.loop-t-init
loop-t-init c = empty_table c.args.faces.now c.in_ok-lists.lists.items c.args.count c.in_ok-lists.ensures

pub put_face-requires : goal.put_face-requires
put_face-requires c = record { numbers = numbers_to c.args.count _ c.args.faces.now c.loop-t.t _ c.requires.triangles c.loop-t-test.true c.loop-t.invariant.0 c.numbers.ensures }

pub loop-t-preserved : goal.loop-t-preserved
loop-t-preserved c =
    let lists = c.loop-t.lists.items in
    next_table c.args.faces.now lists _ c.loop-t.t c.args.count c.loop-t.invariant c.in_ok-put_face.ensures.count
    (λ q lt. c.in_ok-put_face.ensures.lists q lt ∙ ap (λ (face : List ℤ). get_or lists q [] ++ hits (pos (q + 1)) c.loop-t.t face) c.numbers.ensures)
