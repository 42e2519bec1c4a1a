-- What a field file has besides its values.
use Rattle.std.specs.Prelude.{◌≡◌, ℕ}
use Rattle.nc_format.specs.declared.NcFile.{NcFile}
use Rattle.field_files.specs.declared.FieldVar.{FieldVar}
use Rattle.field_files.specs.declared.frame.Frame.{Frame}
use Rattle.field_files.specs.FieldDocument.{leading_ids, field_dims, field_ids, field_records}

-- the records and the dimensions of the file of a field, and those of each of its variables
pub record IsFrameOf (file : NcFile) (field : FieldVar) (n_b : ℕ) (frame : Frame) : Type 0 where
  pub records : frame.records ≡ field_records file (leading_ids file field)
  pub dims : frame.dims ≡ field_dims file (leading_ids file field) n_b
  pub ids : frame.ids ≡ field_ids (leading_ids file field)
