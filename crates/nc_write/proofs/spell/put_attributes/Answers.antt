use Rattle.std.proofs.Common.{◌≡◌, ◌++◌, ◌∙◌}
use Rattle.std.specs.List.{flat_map}
use Rattle.nc_write.specs.File.{attribute}
use Rattle.nc_write.proofs.Behind.{put_more, put_all, no_parts}
use Rattle.nc_write.proofs.spell.put_attributes.Goals as goal

pub loop-att-preserved : goal.loop-att-preserved
loop-att-preserved c =
    put_more (attribute c.args.version) c.args.atts.now c.loop-att.att-index c.att-item.result c.put_tag.new.out.items c.loop-att.out.items c.put_attribute.new.out.items
    c.loop-att-test.true c.att-item.is c.loop-att.invariant c.in_ok-put_attribute.ensures

pub returns : goal.returns
returns c =
    let all = flat_map (attribute c.args.version) c.args.atts.now in
    let put : c.loop-att.out.items ≡ c.put_tag.new.out.items ++ all =
    put_all (attribute c.args.version) c.args.atts.now c.loop-att.att-index c.put_tag.new.out.items c.loop-att.out.items c.loop-att-test.false c.loop-att.invariant in
    put ∙ c.in_ok-put_tag.ensures all (λ e. no_parts (attribute c.args.version) c.args.atts.now e)
