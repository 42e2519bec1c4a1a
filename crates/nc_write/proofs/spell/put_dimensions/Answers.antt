use Rattle.std.proofs.Common.{◌≡◌, ◌++◌, ◌∙◌}
use Rattle.std.specs.List.{flat_map}
use Rattle.nc_write.specs.File.{dimension}
use Rattle.nc_write.proofs.Behind.{put_more, put_all, no_parts}
use Rattle.nc_write.proofs.spell.put_dimensions.Goals as goal

pub loop-dim-preserved : goal.loop-dim-preserved
loop-dim-preserved c =
    put_more (dimension c.args.version) c.args.dims.now c.loop-dim.dim-index c.dim-item.result c.put_tag.new.out.items c.loop-dim.out.items c.put_dimension.new.out.items
    c.loop-dim-test.true c.dim-item.is c.loop-dim.invariant c.in_ok-put_dimension.ensures

pub returns : goal.returns
returns c =
    let all = flat_map (dimension c.args.version) c.args.dims.now in
    let put : c.loop-dim.out.items ≡ c.put_tag.new.out.items ++ all =
    put_all (dimension c.args.version) c.args.dims.now c.loop-dim.dim-index c.put_tag.new.out.items c.loop-dim.out.items c.loop-dim-test.false c.loop-dim.invariant in
    put ∙ c.in_ok-put_tag.ensures all (λ e. no_parts (dimension c.args.version) c.args.dims.now e)
