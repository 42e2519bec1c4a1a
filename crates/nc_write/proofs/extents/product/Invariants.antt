use Rattle.std.proofs.Common.{◌≡◌, ◌*◌, ◌≤◌, ◌^◌, drop, min}
use Rattle.nc_write.specs.Extents.{lens_of, product_of}
use Rattle.nc_write.proofs.extents.product.Given as goal

abbrev pub invariant-loop-id : goal.invariant-loop-id
invariant-loop-id l = record {
  small : l.product ≤ 2 ^ 63;
  so_far : min (l.product * product_of (lens_of l.dims) (drop l.id-index l.ids)) (2 ^ 63) ≡ min (l.fn.first * product_of (lens_of l.dims) l.ids) (2 ^ 63);
}
