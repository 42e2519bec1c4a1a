use Rattle.cell_index.proofs.SixBoxes.{six_are}
use Rattle.cell_index.proofs.kept_boxes.wide_on.Goals as goal

pub returns : goal.returns
returns c = six_are c.args.panel.now _ _ _ _ _ _ _ _ _ _ _ _ c.type_inv.panel c.wide_at.ensures c.wide_at-2.ensures c.wide_at-3.ensures c.wide_at-4.ensures c.wide_at-5.ensures c.wide_at-6.ensures
