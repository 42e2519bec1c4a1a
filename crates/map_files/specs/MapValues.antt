-- The map that the numbers of a file say, row by row and face by face, or the first fault. The whole form is our own.
-- A row and a face count from 0 here, and from 1 in a fault.
use Rattle.std.specs.Prelude.{ℕ, ◌+◌, ℤ, pos, List, map, Bool, not, ◌&&◌, unsigned_abs, Option, Some, None, Result, Ok, Err}
use Rattle.std.specs.List.{range_with_len}
use Rattle.std.specs.Ordering.{int_eq}
use Rattle.map_rows.specs.declared.rows.MapRow.{MapRow}
use Rattle.map_rows.specs.Maps.{MapParts, source_of, target_of, areas_of}
use Rattle.map_files.specs.declared.vars.MapVars.{MapVars}
use Rattle.exodus_mesh.specs.declared.faults.FileFault.{FileFault}
use Rattle.exodus_mesh.specs.declared.faults.FileFault.TheVariants.{Row, AreaA, AreaB}
use Rattle.exodus_mesh.specs.FirstNot.{first_not}
use Rattle.exodus_mesh.specs.Pairs.{is_within, at_row, has_good_faces}

-- the numbers of the variables `col`, `row` and `S`
pub record RowColumns : Type 0 where
  pub col : List ℤ
  pub row : List ℤ
  pub s : List ℤ

-- row r: its faces are faces of the meshes, the pair of them exceeds that of the row before, and its measure is from 1
-- to 1,099,511,627,775
unfoldable pub is_good_map_row : ℕ → ℕ → RowColumns → ℕ → Bool
is_good_map_row n_a n_b c r = has_good_faces n_a n_b c.col c.row r && is_within 1 1099511627775 (at_row c.s r)

-- the row at r, and all rows
abbrev pub map_row_at : RowColumns → ℕ → MapRow
map_row_at c r = record { col = unsigned_abs (at_row c.col r); row = unsigned_abs (at_row c.row r); s = at_row c.s r }

abbrev pub map_rows_of : ℕ → RowColumns → List MapRow
map_rows_of n c = map (map_row_at c) (range_with_len 0 n)

-- the area of face k is the sum of the measures of its rows
abbrev pub is_sum : List ℤ → List ℤ → ℕ → Bool
is_sum areas sums k = int_eq (at_row areas k) (at_row sums k)

-- the same, and it is not 0
abbrev pub is_sum_of_some : List ℤ → List ℤ → ℕ → Bool
is_sum_of_some areas sums k = is_sum areas sums k && not (int_eq (at_row areas k) (pos 0))

-- the first fault, if there is one: of rows, then of sources, then of targets
abbrev pub first_of : Option ℕ → Option ℕ → Option ℕ → Option FileFault
first_of (Some r) a b = Some (Row (r + 1))
first_of None (Some i) b = Some (AreaA (i + 1))
first_of None None (Some j) = Some (AreaB (j + 1))
first_of None None None = None

unfoldable pub map_fault : MapVars → RowColumns → List ℤ → List ℤ → Option FileFault
map_fault v c area_a area_b =
    first_of
    (first_not (is_good_map_row v.n_a v.n_b c) v.n_s)
    (first_not (is_sum area_a (areas_of source_of v.n_a (map_rows_of v.n_s c))) v.n_a)
    (first_not (is_sum_of_some area_b (areas_of target_of v.n_b (map_rows_of v.n_s c))) v.n_b)

-- the map with these counts, rows and areas
abbrev pub map_at : MapVars → RowColumns → List ℤ → List ℤ → MapParts
map_at v c area_a area_b = record { n_a = v.n_a; n_b = v.n_b; rows = map_rows_of v.n_s c; area_a = area_a; area_b = area_b }

abbrev pub unless_fault : Option FileFault → MapParts → Result MapParts FileFault
unless_fault None m = Ok m
unless_fault (Some fault) m = Err fault

-- The map that the numbers of the variables say, or the first fault.
unfoldable pub map_of : MapVars → RowColumns → List ℤ → List ℤ → Result MapParts FileFault
map_of v c area_a area_b = unless_fault (map_fault v c area_a area_b) (map_at v c area_a area_b)
