-- The document of a map, and how long its file is. The whole form is our own.
use Rattle.std.specs.Prelude.{ℕ, ◌+◌, ◌*◌, ℤ, pos, List, [], ◌∷◌, length, map, codes}
use Rattle.map_rows.specs.declared.rows.MapRow.{MapRow}
use Rattle.map_rows.specs.Maps.{MapParts, measure_of}
use Rattle.nc_write.specs.declared.NcDoc.{NcDoc}
use Rattle.nc_write.specs.declared.DocDim.{DocDim}
use Rattle.nc_write.specs.declared.DocVar.{DocVar}
use Rattle.nc_write.specs.declared.Values.TheVariants.{Int, Long}
use Rattle.exodus_mesh.specs.MeshDocument.{dimension_of}
use Rattle.exodus_mesh.specs.Columns.{variable_of}

-- the source faces, the target faces and the measures, row by row
abbrev pub col_column : List MapRow → List ℤ
col_column rows = map (λ (r : MapRow). pos r.col) rows

abbrev pub row_column : List MapRow → List ℤ
row_column rows = map (λ (r : MapRow). pos r.row) rows

abbrev pub measure_column : List MapRow → List ℤ
measure_column rows = map measure_of rows

abbrev pub map_dims : ℕ → ℕ → ℕ → List DocDim
map_dims n_a n_b n_s =
    dimension_of (codes "n_a") n_a
    ∷ dimension_of (codes "n_b") n_b
    ∷ dimension_of (codes "n_s") n_s
    ∷ []

abbrev pub map_vars : List MapRow → List ℤ → List ℤ → List DocVar
map_vars rows area_a area_b =
    variable_of (codes "col") (2 ∷ []) (Int (col_column rows))
    ∷ variable_of (codes "row") (2 ∷ []) (Int (row_column rows))
    ∷ variable_of (codes "S") (2 ∷ []) (Long (measure_column rows))
    ∷ variable_of (codes "area_a") (0 ∷ []) (Long area_a)
    ∷ variable_of (codes "area_b") (1 ∷ []) (Long area_b)
    ∷ []

unfoldable pub map_document : MapParts → NcDoc
map_document m = record {
  records = 0;
  dims = map_dims m.n_a m.n_b (length m.rows);
  atts = [];
  vars = map_vars m.rows m.area_a m.area_b;
}

-- the length of the file of a map, by its counts of faces and of rows: the header in version 5, two numbers of 32 bits
-- and one of 64 bits a row, and one of 64 bits a face
abbrev pub map_file_len : ℕ → ℕ → ℕ → ℕ
map_file_len n_a n_b n_s = 416 + 16 * n_s + 8 * (n_a + n_b)
