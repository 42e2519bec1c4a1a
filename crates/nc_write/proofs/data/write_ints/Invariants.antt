use Rattle.std.proofs.Common.{◌-◌, ◌≤◌, length, slice_range}
use Rattle.std.specs.Io.KnownBytes.{Appends}
use Rattle.nc_write.specs.declared.NcKind.TheVariants as kinds
use Rattle.nc_write.specs.File.{value_bytes}
use Rattle.nc_write.proofs.data.write_ints.Given as goal

abbrev pub invariant-loop-at : goal.invariant-loop-at
invariant-loop-at g l = record {
  within : l.at ≤ length l.numbers;
  written : Appends (g.W.Write.contents l.initial.out) (g.W.Write.contents l.out) (value_bytes kinds.Int (slice_range l.numbers 0 l.at));
}

abbrev pub decreases-loop-at : goal.decreases-loop-at
decreases-loop-at g l = length l.numbers - l.at
