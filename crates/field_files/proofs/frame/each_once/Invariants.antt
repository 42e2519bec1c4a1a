use Rattle.std.proofs.Common.{◌≡◌, take}
use Rattle.field_files.specs.FieldDocument.{each_once}
use Rattle.field_files.specs.NewPlaces.{ArePlacesOf}
use Rattle.field_files.proofs.frame.each_once.Given as goal

abbrev pub invariant-loop-id : goal.invariant-loop-id
invariant-loop-id l = record {
  ids : l.ids.items ≡ each_once (take l.id-index l.leading);
  places : ArePlacesOf (each_once (take l.id-index l.leading)) l.dim_count l.places.items;
}
