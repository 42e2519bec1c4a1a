use Rattle.std.proofs.Common.{◌≡◌, ◌*◌, length}
use Rattle.std.specs.List.{flat_map, range_with_len}
use Rattle.nc_format.specs.Numbers.{piece_of}
use Rattle.remap_io.specs.Folder.{OnFile}
use Rattle.remap_load.specs.Loading.{ReadsAtMost}
use Rattle.remap_load.specs.Pieces.{pieces_cost}
use Rattle.remap_load.proofs.variables.piece_bytes.Given as goal

abbrev pub invariant-loop-r : goal.invariant-loop-r
invariant-loop-r g l = record {
  pieces : OnFile (g.F.Files.seen l.fn.files).folder l.name (λ all. l.bytes.items ≡ flat_map (piece_of l.var all) (range_with_len 0 l.r));
  long : length l.bytes.items ≡ l.r * l.var.part;
  reads : ReadsAtMost (g.F.Files.seen l.fn.files) (g.F.Files.seen l.files) (pieces_cost (length l.head.prefix) l.var l.r);
}
