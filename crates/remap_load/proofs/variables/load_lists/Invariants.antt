use Rattle.std.proofs.Common.{◌≡◌, length, map, take}
use Rattle.std.specs.List.{sum_by}
use Rattle.remap_io.specs.Folder.{OnFile}
use Rattle.remap_load.specs.Loading.{ReadsAtMost}
use Rattle.remap_load.specs.Pieces.{numbers_at, count_at, bytes_at}
use Rattle.remap_load.proofs.variables.load_lists.Given as goal

abbrev pub invariant-loop-place : goal.invariant-loop-place
invariant-loop-place g l = record {
  values : OnFile (g.F.Files.seen l.fn.files).folder l.name (λ bytes. map g.N.Numbers.numbers l.lists.items ≡ map (numbers_at l.head.file bytes) (take l.place-index l.places));
  lens : map (λ list. length (g.N.Numbers.numbers list)) l.lists.items ≡ map (count_at l.head.file) (take l.place-index l.places);
  reads : ReadsAtMost (g.F.Files.seen l.fn.files) (g.F.Files.seen l.files) (sum_by (bytes_at l.head.file) (take l.place-index l.places));
}
