use Rattle.std.proofs.Common.{◌≡◌, map, take}
use Rattle.field_files.specs.FieldDocument.{each_once, place_among}
use Rattle.field_files.proofs.frame.field_ids.Given as goal

abbrev pub invariant-loop-id : goal.invariant-loop-id
invariant-loop-id l = l.items.items ≡ map (place_among (each_once l.leading)) (take l.id-index l.leading)
