use Rattle.std.proofs.Common.{◌≤◌, ◌<◌, ◌-◌, ◌+◌, length}
use Rattle.remap_io.specs.Folder.{OnFile}
use Rattle.remap_io.specs.Outside.{OnlyReads}
use Rattle.remap_load.specs.Heads.{IsFront, IsGrown}
use Rattle.remap_load.proofs.header.load_from.Given as goal

abbrev pub invariant-growing : goal.invariant-growing
invariant-growing g l = record {
  within : length l.front.items ≤ l.len;
  many : length l.front.items < l.len → 65536 ≤ length l.front.items;
  front : OnFile (g.F.Files.seen l.files).folder l.name (IsFront l.front.items l.len);
  grown : IsGrown l.front.items l.len;
  reads : OnlyReads (g.F.Files.seen l.fn.files) (g.F.Files.seen l.files);
  asked : (g.F.Files.seen l.files).taken + length l.fn.front.items ≤ (g.F.Files.seen l.fn.files).taken + length l.front.items;
}

abbrev pub decreases-growing : goal.decreases-growing
decreases-growing g l = l.len - length l.front.items
