use Rattle.std.proofs.Common.{◌≡◌, ◌*◌, drop, map}
use Rattle.std.specs.List.{range_with_len}
use Rattle.nc_write.specs.Kinds.{size_of}
use Rattle.nc_format.specs.Numbers.{number_in}
use Rattle.nc_format.proofs.values.longs.Given as goal

abbrev pub invariant-loop-k : goal.invariant-loop-k
invariant-loop-k l = l.values.items ≡ map (λ i. number_in l.kind (drop (i * size_of l.kind) l.bytes)) (range_with_len 0 l.k)
