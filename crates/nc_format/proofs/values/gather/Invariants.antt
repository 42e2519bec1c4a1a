use Rattle.std.proofs.Common.{◌≡◌}
use Rattle.std.specs.List.{flat_map, range_with_len}
use Rattle.nc_format.specs.Numbers.{piece_of}
use Rattle.nc_format.proofs.values.gather.Given as goal

abbrev pub invariant-loop-r : goal.invariant-loop-r
invariant-loop-r l = l.bytes.items ≡ flat_map (piece_of l.var l.file) (range_with_len 0 l.r)
