use Rattle.std.proofs.Common.{◌∙◌}
use Rattle.gen_ico.proofs.Rows.{neighbours}
use Rattle.gen_ico.proofs.faces.put_triangle.Goals as goal

pub put_row-requires : goal.put_row-requires
put_row-requires c =
    record { lens = neighbours c.args.nodes.now c.args.n c.args.triangle c.loop-i.i _ _ c.loop-i-test.true (c.deref.ensures.value ∙ c.loop-i.invariant.1) (c.deref-in-loop-i.ensures.value ∙ c.in_ok-next.ensures) }
