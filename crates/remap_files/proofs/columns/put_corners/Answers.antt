use Rattle.clip.specs.Columns.{triple_of}
use Rattle.remap_files.specs.OverlapDocument.{IsCorner}
use Rattle.remap_files.proofs.Taken.{all_more, flat_step}
use Rattle.remap_files.proofs.columns.put_corners.Goals as goal

pub loop-corner-preserved : goal.loop-corner-preserved
loop-corner-preserved c =
    let corners = c.args.corners.now in
    let i = c.loop-corner.corner-index in
    record {
      values = flat_step triple_of corners i _ c.args.values.now.items c.loop-corner.values.items c.put_corner.new.values.items c.loop-corner-test.true c.loop-corner.invariant.values c.in_ok-put_corner.ensures.values;
      typed = all_more IsCorner corners i _ c.loop-corner-test.true c.loop-corner.invariant.typed c.in_ok-put_corner.ensures.typed;
    }
