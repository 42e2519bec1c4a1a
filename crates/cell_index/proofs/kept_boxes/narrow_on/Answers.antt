use Rattle.cell_index.proofs.SixBoxes.{six_are}
use Rattle.cell_index.proofs.kept_boxes.narrow_on.Goals as goal

pub returns : goal.returns
returns c = six_are c.args.panel.now _ _ _ _ _ _ _ _ _ _ _ _ c.told-panel c.narrow_at.ensures c.narrow_at-2.ensures c.narrow_at-3.ensures c.narrow_at-4.ensures c.narrow_at-5.ensures c.narrow_at-6.ensures
