use Rattle.gen_ico.proofs.Rows.{two_faces}
use Rattle.gen_ico.proofs.faces.put_faces.Goals as goal

pub returns-in_ok-put_inverted : goal.returns-in_ok-put_inverted
returns-in_ok-put_inverted c = two_faces c.args.row.now c.args.next.now c.args.j _ _ _ c.in_ok-put_upright.ensures c.in_ok-put_inverted.ensures c.if-j-next.true
