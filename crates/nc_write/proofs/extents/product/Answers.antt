use Rattle.std.proofs.Common.{◌^◌, ◌*◌, min, arith}
use Rattle.nc_write.specs.Extents.{lens_of, product_of}
use Rattle.nc_write.proofs.Lens.{product_goes_on, product_is_done}
use Rattle.nc_write.proofs.extents.product.Goals as goal

pub loop-id-preserved : goal.loop-id-preserved
loop-id-preserved c =
    let lens = lens_of c.args.dims.now in
    let h = product_goes_on lens c.args.ids.now c.loop-id.id-index c.loop-id.product (min (c.args.first * product_of lens c.args.ids.now) (2 ^ 63)) (2 ^ 63) c.loop-id-test.true c.loop-id.invariant.so_far in
    record { small = omega arith; so_far = rw (c.times-product.ensures, c.from.ensures, c.len_at.ensures) h }

pub returns : goal.returns
returns c =
    let lens = lens_of c.args.dims.now in
    product_is_done lens c.args.ids.now c.loop-id.id-index c.loop-id.product (min (c.args.first * product_of lens c.args.ids.now) (2 ^ 63)) (2 ^ 63) c.loop-id-test.false c.loop-id.invariant.small c.loop-id.invariant.so_far
