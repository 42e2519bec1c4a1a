use Rattle.std.specs.Io.KnownBytes.{Appends}
use Rattle.std.specs.List.{flat_map, range_with_len}
use Rattle.nc_write.specs.File.{record_of}
use Rattle.nc_write.specs.Made.{made_doc}
use Rattle.nc_write.proofs.data.write_records.Given as goal

abbrev pub invariant-loop-r : goal.invariant-loop-r
invariant-loop-r g l = Appends (g.W.Write.contents l.fn.out) (g.W.Write.contents l.out) (flat_map (record_of (made_doc (g.M.MadeNumbers.numbers l.made) l.doc)) (range_with_len 0 l.r))
