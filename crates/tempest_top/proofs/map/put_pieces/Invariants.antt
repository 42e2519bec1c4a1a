use Rattle.std.proofs.Common.{◌≤◌, ◌+◌, ◌-◌}
use Rattle.vec_exact.specs.declared.RawMesh.{RawMesh}
use Rattle.remap_io.specs.Outside.{OnlyReads}
use Rattle.overlap_load.specs.Windows.{rest_bytes}
use Rattle.tempest_top.specs.MapReading.{IsMaking}
use Rattle.tempest_top.proofs.map.put_pieces.Given as goal

abbrev pub invariant-pieces : goal.invariant-pieces
invariant-pieces g l = record {
  making : (a b : RawMesh) → IsMaking (g.F.Files.seen l.fn.files).folder l.name a b l.fn.reader l.fn.maker → IsMaking (g.F.Files.seen l.fn.files).folder l.name a b l.reader l.maker;
  reads : OnlyReads (g.F.Files.seen l.fn.files) (g.F.Files.seen l.files);
  asked : (g.F.Files.seen l.files).taken + rest_bytes l.reader ≤ (g.F.Files.seen l.fn.files).taken + rest_bytes l.fn.reader;
}

abbrev pub decreases-pieces : goal.decreases-pieces
decreases-pieces g l = l.reader.vars.pieces - l.reader.at
