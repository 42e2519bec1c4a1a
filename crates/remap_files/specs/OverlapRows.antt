-- The pieces that the numbers of a file say, row by row, and the first row at fault. The whole form is our own.
-- A row counts from 0 here, and from 1 in a fault.
use Rattle.std.specs.Prelude.{ℕ, ◌+◌, ◌*◌, ℤ, List, [], ◌∷◌, length, map, take, drop, Bool, nat_lt, nat_le, ◌==◌, ◌&&◌, if◌then◌else◌, unsigned_abs, slice_index_or, Option, Some, None, Result, Ok, Err}
use Rattle.std.specs.List.{list_all, range_with_len, sum_by}
use Rattle.clip.specs.declared.pieces.Piece.{Piece}
use Rattle.clip.specs.Overlaps.{OverlapParts}
use Rattle.exodus_mesh.specs.MeshValues.{rows_of}
use Rattle.remap_files.specs.declared.vars.OverlapVars.{OverlapVars}
use Rattle.exodus_mesh.specs.declared.faults.FileFault.{FileFault}
use Rattle.exodus_mesh.specs.declared.faults.FileFault.TheVariants.{Row}
use Rattle.exodus_mesh.specs.Pairs.{is_within, at_row, has_good_faces}
use Rattle.exodus_mesh.specs.FirstNot.{first_not}

-- the numbers of the five variables
pub record Columns : Type 0 where
  pub source : List ℤ
  pub target : List ℤ
  pub ring_size : List ℤ
  pub ring_plane : List ℤ
  pub corner : List ℤ

-- the same, by their order
abbrev pub columns_of : List (List ℤ) → Columns
columns_of values = record {
  source = slice_index_or values 0 [];
  target = slice_index_or values 1 [];
  ring_size = slice_index_or values 2 [];
  ring_plane = slice_index_or values 3 [];
  corner = slice_index_or values 4 [];
}

-- how many numbers each variable has; without a piece there is none
abbrev pub overlap_lens : OverlapVars → List ℕ
overlap_lens v = if v.pieces == 0 then [] else (v.pieces ∷ v.pieces ∷ v.pieces ∷ v.corners ∷ 3 * v.corners ∷ [])

-- the ring of row r begins where those of the rows before it end
unfoldable pub ring_begin : List ℤ → ℕ → ℕ
ring_begin ring_size r = sum_by unsigned_abs (take r ring_size)

abbrev pub ring_len : List ℤ → ℕ → ℕ
ring_len ring_size r = unsigned_abs (at_row ring_size r)

abbrev pub ring_at : List ℤ → List ℤ → ℕ → List ℤ
ring_at ring_size ring_plane r = take (ring_len ring_size r) (drop (ring_begin ring_size r) ring_plane)

-- the ring of row r has 3 to 32 numbers, all of them there, and each from 1 to 32
unfoldable pub has_good_ring : List ℤ → List ℤ → ℕ → Bool
has_good_ring ring_size ring_plane r =
    is_within 3 32 (at_row ring_size r)
    && nat_le (ring_begin ring_size r + ring_len ring_size r) (length ring_plane)
    && list_all (is_within 1 32) (ring_at ring_size ring_plane r)

abbrev pub is_good_row : ℕ → ℕ → Columns → ℕ → Bool
is_good_row faces_a faces_b c r = has_good_faces faces_a faces_b c.source c.target r && has_good_ring c.ring_size c.ring_plane r

-- a piece by its faces, the numbers of its ring and of its corners
abbrev pub piece_of : ℤ → ℤ → List ℤ → List (List ℤ) → Piece
piece_of source target ring corners = record { a = unsigned_abs source; b = unsigned_abs target; ring = record { items = map unsigned_abs ring }; corners = corners }

-- the piece of row r: it has three numbers of `corner` for each place of its ring
unfoldable pub piece_at : Columns → ℕ → Piece
piece_at c r =
    piece_of (at_row c.source r) (at_row c.target r) (ring_at c.ring_size c.ring_plane r)
    (rows_of (ring_len c.ring_size r) 3 (drop (3 * ring_begin c.ring_size r) c.corner))

-- behind the last ring nothing is left
abbrev pub rest_fault : ℕ → Columns → Option ℕ
rest_fault pieces c = if nat_lt (ring_begin c.ring_size pieces) (length c.ring_plane) then Some pieces else None

abbrev pub first_fault : ℕ → Columns → Option ℕ → Option ℕ
first_fault pieces c (Some r) = Some (r + 1)
first_fault pieces c None = rest_fault pieces c

-- the number of the first row at fault; it is that of the last row, where `ring_plane` goes on behind its ring
unfoldable pub row_fault : OverlapVars → Columns → Option ℕ
row_fault v c = first_fault v.pieces c (first_not (is_good_row v.faces_a v.faces_b c) v.pieces)

-- the overlap with these counts and all rows
abbrev pub overlap_at : OverlapVars → Columns → OverlapParts
overlap_at v c = record { faces_a = v.faces_a; faces_b = v.faces_b; pieces = map (piece_at c) (range_with_len 0 v.pieces) }

abbrev pub unless_fault : Option ℕ → OverlapParts → Result OverlapParts FileFault
unless_fault None o = Ok o
unless_fault (Some r) o = Err (Row r)

-- The overlap that the numbers of the variables say, or the first row at fault.
unfoldable pub overlap_from : OverlapVars → Columns → Result OverlapParts FileFault
overlap_from v c = unless_fault (row_fault v c) (overlap_at v c)

-- the same, of the numbers by the order of the variables
abbrev pub overlap_of : OverlapVars → List (List ℤ) → Result OverlapParts FileFault
overlap_of v values = overlap_from v (columns_of values)
