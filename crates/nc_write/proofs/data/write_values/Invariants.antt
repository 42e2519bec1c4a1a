use Rattle.std.proofs.Common.{◌-◌, ◌≤◌, slice_range}
use Rattle.std.specs.Io.KnownBytes.{Appends}
use Rattle.nc_write.specs.File.{kind_of, numbers_of, value_bytes}
use Rattle.nc_write.specs.Made.{made_values}
use Rattle.nc_write.proofs.data.write_values.Given as goal

abbrev pub invariant-loop-at : goal.invariant-loop-at
invariant-loop-at g l = record {
  from : l.from ≤ l.at;
  to : l.at ≤ l.to;
  written : Appends (g.W.Write.contents l.initial.out) (g.W.Write.contents l.out) (value_bytes (kind_of (made_values (g.M.MadeNumbers.numbers l.made) l.values)) (slice_range (numbers_of (made_values (g.M.MadeNumbers.numbers l.made) l.values)) l.from l.at));
}

abbrev pub decreases-loop-at : goal.decreases-loop-at
decreases-loop-at g l = l.to - l.at
