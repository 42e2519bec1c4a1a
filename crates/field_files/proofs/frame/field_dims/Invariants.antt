use Rattle.std.proofs.Common.{◌≡◌, map, take}
use Rattle.field_files.specs.FieldDocument.{dim_at}
use Rattle.field_files.proofs.frame.field_dims.Given as goal

abbrev pub invariant-loop-id : goal.invariant-loop-id
invariant-loop-id l = l.dims.items ≡ map (dim_at l.file.dims) (take l.id-index l.kept.ids.items)
