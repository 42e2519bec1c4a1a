-- The documents of the tests.
use Rattle.std.specs.Prelude.{ℕ, ℤ, pos, negsuc, List, [], ◌∷◌, codes}
use Rattle.nc_write.specs.declared.Values.{Values}
use Rattle.nc_write.specs.declared.Values.TheVariants.{Byte, Int, Long}
use Rattle.nc_write.specs.declared.DocDim.{DocDim}
use Rattle.nc_write.specs.declared.DocAtt.{DocAtt}
use Rattle.nc_write.specs.declared.DocVar.{DocVar}
use Rattle.nc_write.specs.declared.NcDoc.{NcDoc}

abbrev pub dimension_of : List ℕ → ℕ → DocDim
dimension_of name len = record { name = name; len = len }

abbrev pub attribute_of : List ℕ → ℤ → DocAtt
attribute_of name value = record { name = name; value = value }

abbrev pub variable_of : List ℕ → List ℕ → Values → DocVar
variable_of name dims values = record { name = name; dims = dims; values = values }

abbrev pub upwards : List ℤ
upwards = pos 1 ∷ pos 2 ∷ pos 3 ∷ pos 4 ∷ pos 5 ∷ pos 6 ∷ pos 7 ∷ pos 8 ∷ pos 9 ∷ []

abbrev pub downwards : List ℤ
downwards = negsuc 0 ∷ negsuc 1 ∷ negsuc 2 ∷ negsuc 3 ∷ negsuc 4 ∷ negsuc 5 ∷ negsuc 6 ∷ negsuc 7 ∷ negsuc 8 ∷ []

-- variables with three records of three values
abbrev pub records_of : List DocVar → NcDoc
records_of vars = record { records = 3; dims = dimension_of (codes "t") 0 ∷ dimension_of (codes "k") 3 ∷ []; atts = []; vars = vars }

unfoldable pub one_record_variable : NcDoc
one_record_variable = records_of (variable_of (codes "b") (0 ∷ 1 ∷ []) (Byte upwards) ∷ [])

unfoldable pub two_record_variables : NcDoc
two_record_variables = records_of (variable_of (codes "b") (0 ∷ 1 ∷ []) (Byte upwards) ∷ variable_of (codes "c") (0 ∷ 1 ∷ []) (Byte downwards) ∷ [])

-- a Long variable, and a record variable without a record
unfoldable pub without_records : NcDoc
without_records = record {
  records = 0;
  dims = dimension_of (codes "t") 0 ∷ dimension_of (codes "n") 2 ∷ [];
  atts = attribute_of (codes "fill_value") (negsuc 0) ∷ [];
  vars = variable_of (codes "S") (1 ∷ []) (Long (pos 5 ∷ negsuc 5 ∷ [])) ∷ variable_of (codes "r") (0 ∷ 1 ∷ []) (Int []) ∷ [];
}

abbrev pub mesh_dims : List DocDim
mesh_dims =
    dimension_of (codes "num_dim") 3 ∷ dimension_of (codes "num_nodes") 8 ∷ dimension_of (codes "num_elem") 6
    ∷ dimension_of (codes "num_el_blk") 1 ∷ dimension_of (codes "num_el_in_blk1") 6 ∷ dimension_of (codes "num_nod_per_el1") 4 ∷ []

abbrev pub coord : List ℤ
coord = negsuc 0 ∷ negsuc 0 ∷ negsuc 0 ∷ negsuc 0 ∷ pos 1 ∷ pos 1 ∷ pos 1 ∷ pos 1 ∷ negsuc 0 ∷ negsuc 0 ∷ pos 1 ∷ pos 1 ∷ negsuc 0 ∷ negsuc 0 ∷ pos 1 ∷ pos 1 ∷ negsuc 0 ∷ pos 1 ∷ negsuc 0 ∷ pos 1 ∷ negsuc 0 ∷ pos 1 ∷ negsuc 0 ∷ pos 1 ∷ []

abbrev pub connect : List ℤ
connect = pos 5 ∷ pos 7 ∷ pos 8 ∷ pos 6 ∷ pos 7 ∷ pos 3 ∷ pos 4 ∷ pos 8 ∷ pos 3 ∷ pos 1 ∷ pos 2 ∷ pos 4 ∷ pos 1 ∷ pos 5 ∷ pos 6 ∷ pos 2 ∷ pos 6 ∷ pos 8 ∷ pos 4 ∷ pos 2 ∷ pos 1 ∷ pos 3 ∷ pos 7 ∷ pos 5 ∷ []

unfoldable pub smallest_cubed_sphere : NcDoc
smallest_cubed_sphere = record { records = 0; dims = mesh_dims; atts = []; vars = variable_of (codes "coord") (0 ∷ 1 ∷ []) (Int coord) ∷ variable_of (codes "connect1") (4 ∷ 5 ∷ []) (Int connect) ∷ [] }

unfoldable pub no_pieces : NcDoc
no_pieces = record { records = 0; dims = []; atts = attribute_of (codes "faces_a") (pos 1) ∷ attribute_of (codes "faces_b") (pos 1) ∷ attribute_of (codes "pieces") (pos 0) ∷ []; vars = [] }
