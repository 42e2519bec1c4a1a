use Rattle.std.proofs.Common.{◌≡◌, ◌++◌, take, All}
use Rattle.std.specs.List.{flat_map}
use Rattle.clip.specs.Columns.{triple_of}
use Rattle.remap_files.specs.OverlapDocument.{IsCorner}
use Rattle.remap_files.proofs.columns.put_corners.Given as goal

abbrev pub invariant-loop-corner : goal.invariant-loop-corner
invariant-loop-corner l = record {
  values : l.values.items ≡ l.fn.values.items ++ flat_map triple_of (take l.corner-index l.corners);
  typed : All IsCorner (take l.corner-index l.corners);
}
