use Rattle.std.proofs.Common.{◌≡◌}
use Rattle.std.specs.List.{AllWithin}
use Rattle.remap_io.proofs.Folders.{named_otherwise}
use Rattle.remap_io.proofs.store.hold.Given as goal

abbrev pub invariant-loop-i : goal.invariant-loop-i
invariant-loop-i l = record {
  same : l.files.items ≡ l.fn.files.items;
  others : AllWithin (named_otherwise l.name) l.files.items 0 l.i;
}
