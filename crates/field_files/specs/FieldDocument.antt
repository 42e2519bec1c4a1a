-- The document of a remapped field. The whole form is our own.
use Rattle.std.specs.Prelude.{ℕ, suc, ℤ, List, [], ◌∷◌, ◌++◌, length, take, map, filter, not, ◌==◌, Option, Some, None, if◌then◌else◌, slice_get, slice_index_or, codes}
use Rattle.nc_write.specs.declared.NcDoc.{NcDoc}
use Rattle.nc_write.specs.declared.DocDim.{DocDim}
use Rattle.nc_write.specs.declared.DocAtt.{DocAtt}
use Rattle.nc_write.specs.declared.DocVar.{DocVar}
use Rattle.nc_write.specs.declared.Values.{Values}
use Rattle.nc_write.specs.declared.Values.TheVariants.{Int, Long}
use Rattle.nc_format.specs.declared.NcVar.{NcVar}
use Rattle.nc_format.specs.declared.NcFile.{NcFile}
use Rattle.nc_write.specs.Extents.{lens_of, has_records}
use Rattle.exodus_mesh.specs.MeshDocument.{dimension_of}
use Rattle.field_files.specs.declared.FieldVar.{FieldVar}
use Rattle.field_files.specs.FileHeader.{dims_at}

-- The dimensions.

-- the leading dimensions, by their places in the list of dimensions; one may stand there several times
abbrev pub leading_ids : NcFile → FieldVar → List ℕ
leading_ids file field = take field.leading (dims_at file field.var)

-- each number once, at its first place
unfoldable pub each_once : List ℕ → List ℕ
each_once [] = []
each_once (id ∷ ids) = id ∷ filter (λ other. not (other == id)) (each_once ids)

-- the place of a number among others, from 0; past the last one where it is none of them
abbrev pub place_among : List ℕ → ℕ → ℕ
place_among [] id = 0
place_among (other ∷ ids) id = if other == id then 0 else suc (place_among ids id)

-- the dimension at a place in the list of dimensions, from 0
abbrev pub dim_at : List DocDim → ℕ → DocDim
dim_at dims id = slice_index_or dims id (dimension_of [] 0)

-- the leading dimensions in order, each once, and then that of the targets
abbrev pub field_dims : NcFile → List ℕ → ℕ → List DocDim
field_dims file leading n_b = map (dim_at file.dims) (each_once leading) ++ dimension_of (codes "n_b") n_b ∷ []

-- each variable names them as often as the file does
abbrev pub field_ids : List ℕ → List ℕ
field_ids leading = map (place_among (each_once leading)) leading ++ length (each_once leading) ∷ []

-- the record dimension keeps its records; without it there are none
abbrev pub field_records : NcFile → List ℕ → ℕ
field_records file leading = if has_records (lens_of file.dims) leading then file.records else 0

-- The variables.

abbrev pub name_of_var : Option NcVar → List ℕ
name_of_var None = []
name_of_var (Some v) = v.name

-- the name of the field
abbrev pub field_name : NcFile → FieldVar → List ℕ
field_name file field = name_of_var (slice_get file.vars field.var)

-- a variable over all of these dimensions, whose name is that of the field with an ending
abbrev pub variable_of : NcFile → FieldVar → List ℕ → Values → DocVar
variable_of file field ending values =
    record { name = field_name file field ++ ending; dims = field_ids (leading_ids file field); values = values }

-- the whole parts, INT, and the rests, INT64
abbrev pub whole_and_rest : NcFile → FieldVar → List ℤ → List ℤ → List DocVar
whole_and_rest file field whole rest =
    variable_of file field [] (Int whole) ∷ variable_of file field (codes "_rest") (Long rest) ∷ []

-- a document over the dimensions of a field
abbrev pub document_over : NcFile → FieldVar → ℕ → List DocAtt → List DocVar → NcDoc
document_over file field n_b atts vars = record {
  records = field_records file (leading_ids file field);
  dims = field_dims file (leading_ids file field) n_b;
  atts = atts;
  vars = vars;
}

-- The document of a field over n_b targets.
unfoldable pub field_document : NcFile → FieldVar → ℕ → List ℤ → List ℤ → NcDoc
field_document file field n_b whole rest = document_over file field n_b [] (whole_and_rest file field whole rest)

-- With a mask.

-- the fill value, where there is one
abbrev pub fill_atts : Option ℤ → List DocAtt
fill_atts None = []
fill_atts (Some fill) = record { name = codes "fill_value"; value = fill } ∷ []

-- The document of a masked field, which has the parts too.
unfoldable pub masked_field_document : NcFile → FieldVar → ℕ → Option ℤ → List ℤ → List ℤ → List ℤ → NcDoc
masked_field_document file field n_b fill whole rest part =
    document_over file field n_b (fill_atts fill) (whole_and_rest file field whole rest ++ variable_of file field (codes "_part") (Long part) ∷ [])
