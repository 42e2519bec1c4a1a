use Rattle.std.proofs.Common.{◌≡◌, ◌++◌, take}
use Rattle.std.specs.List.{flat_map}
use Rattle.clip.specs.Columns.{triple_of}
use Rattle.clip.proofs.columns.put_corners.Given as goal

abbrev pub invariant-loop-corner : goal.invariant-loop-corner
invariant-loop-corner l = l.numbers.items ≡ l.fn.numbers.items ++ flat_map triple_of (take l.corner-index l.corners)
