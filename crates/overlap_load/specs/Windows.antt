-- An overlap file that is read piece by piece: its rows stand in memory, and the corners of some of them. Source: our own.
use Rattle.std.specs.Prelude.{◌≡◌, ◌⊎◌, ◌≤◌, ◌<◌, ◌+◌, ◌-◌, ◌*◌, ℕ, ℤ, List, [], ◌∷◌, ◌++◌, length, map, take, drop, Option, Some, None, Ok, IsSomeAnd, if◌then◌else◌, nat_lt, slice_get, slice_range, slice_index_or}
use Rattle.std.specs.List.{range_with_len}
use Rattle.clip.specs.declared.pieces.Piece.{Piece}
use Rattle.clip.specs.Overlaps.{OverlapParts, IsSoundPiece, IsSoundOverlap}
use Rattle.remap_io.specs.Folder.{Folder, OnFile}
use Rattle.nc_write.specs.Kinds.{size_of}
use Rattle.nc_format.specs.declared.NcVar.{NcVar}
use Rattle.exodus_mesh.specs.declared.faults.FileFault.{FileFault}
use Rattle.exodus_mesh.specs.declared.faults.FileFault.TheVariants.{Name, Row, AreaA, AreaB, NoMemory}
use Rattle.remap_files.specs.declared.vars.OverlapVars.{OverlapVars}
use Rattle.remap_files.specs.OverlapNames.{overlap_vars_in}
use Rattle.remap_files.specs.OverlapIn.{lists_in}
use Rattle.remap_files.specs.OverlapRows.{Columns, columns_of, ring_begin, ring_len, piece_at, row_fault}
use Rattle.remap_files.specs.Rows.{HasRowLens, with_corners, piece_with}
use Rattle.remap_load.specs.declared.Head.{Head}
use Rattle.remap_load.specs.Heads.{IsHead, IsHeadOfBytes}
use Rattle.remap_load.specs.Kinds.{HasContent}
use Rattle.remap_load.specs.Pieces.{numbers_at, bytes_at}
use Rattle.remap_load.specs.declared.refusal.FileRefusal.{FileRefusal}
use Rattle.remap_load.specs.declared.refusal.FileRefusal.TheVariants.{Load, Content}
use Rattle.overlap_load.specs.OverlapFile.{overlap_kind}

-- a file that was opened: its head, the counts and the places of its variables, the numbers of the first four of them, and how many
-- pieces were read; the ring of the next one begins at `begin`. The corners from `first` on stand in memory, up to those of row `end`.
pub record Reading : Type 0 where
  pub head : Head
  pub vars : OverlapVars
  pub values : List (List ℤ)
  pub at : ℕ
  pub begin : ℕ
  pub corners : List ℤ
  pub first : ℕ
  pub end : ℕ

-- the rows, with these corners
abbrev pub columns : Reading → List ℤ → Columns
columns r corner = with_corners (columns_of r.values) corner

-- where the ring of row k begins
abbrev pub begin_of : Reading → ℕ → ℕ
begin_of r k = ring_begin (columns r []).ring_size k

-- the place of the variable of the corners
abbrev pub corner_place : OverlapVars → ℕ
corner_place vars = slice_index_or vars.vars 4 0

abbrev pub width_of : Option NcVar → ℕ
width_of None = 0
width_of (Some v) = size_of v.kind

-- how many bytes the corners have from row k on; none behind the last row
abbrev pub bytes_from : Reading → ℕ → ℕ
bytes_from r k =
    if nat_lt k r.vars.pieces then bytes_at r.head.file (corner_place r.vars) - (3 * begin_of r k) * width_of (slice_get r.head.file.vars (corner_place r.vars)) else 0

-- how many bytes the corners have that weren't read yet
abbrev pub rest_bytes : Reading → ℕ
rest_bytes r = bytes_from r r.end

-- the variable of the corners stands in one piece
abbrev pub InOnePiece : Reading → Type 0
InOnePiece r = IsSomeAnd (slice_get r.head.file.vars (corner_place r.vars)) (λ (v : NcVar). v.parts ≡ 1)

-- What a reader keeps: its rows are at no fault, and it is within them. Corners that stand in several pieces are read at once.
pub record IsReader (r : Reading) : Type 0 where
  pub head : IsHead r.head
  pub found : overlap_vars_in r.head.file ≡ Ok r.vars
  pub count : 0 < r.vars.pieces → 4 ≤ length r.values
  pub lens : 0 < r.vars.pieces → HasRowLens r.vars (columns r [])
  pub good : row_fault r.vars (columns r []) ≡ None
  pub at : r.at ≤ r.end
  pub end : r.end ≤ r.vars.pieces
  pub begin : r.begin ≡ begin_of r r.at
  pub first : r.first ≤ r.begin
  pub long : length r.corners ≡ 3 * (begin_of r r.end - r.first)
  pub one : (r.end ≡ 0) ⊎ (r.end < r.vars.pieces → InOnePiece r)

-- the numbers of the variables in these bytes are the rows with these corners
abbrev pub AreColumns : Reading → List ℤ → List ℕ → Type 0
AreColumns r corner bytes = columns_of (lists_in r.head.file bytes r.vars.vars) ≡ columns r corner

-- These are the pieces that were read so far: those of the first rows, with the corners that the file has, where the folder is told.
pub record IsRead (folder : Option Folder) (name : List ℕ) (r : Reading) (pieces : List Piece) : Type 0 where
  pub reader : IsReader r
  pub of_file : OnFile folder name (IsHeadOfBytes r.head)
  pub corner : List ℤ
  pub enough : 3 * begin_of r r.end ≤ length corner
  pub columns_are : OnFile folder name (AreColumns r corner)
  pub window : r.corners ≡ slice_range corner (3 * r.first) (3 * begin_of r r.end)
  pub are : pieces ≡ map (piece_at (columns r corner)) (range_with_len 0 r.at)

-- an overlap that the file holds, where the folder is told, begins with these pieces
pub record Begins (folder : Option Folder) (name : List ℕ) (r : Reading) (pieces : List Piece) (o : OverlapParts) : Type 0 where
  pub of_file : OnFile folder name (λ bytes. HasContent overlap_kind bytes o)
  pub sound : IsSoundOverlap o
  pub source_faces : o.faces_a ≡ r.vars.faces_a
  pub target_faces : o.faces_b ≡ r.vars.faces_b
  pub count : length o.pieces ≡ r.vars.pieces
  pub first : take r.at o.pieces ≡ pieces

-- the pieces so far, and the next one, if there is one
abbrev pub with_next : List Piece → Option Piece → List Piece
with_next pieces None = pieces
with_next pieces (Some p) = pieces ++ p ∷ []

-- no piece is left, or the next one is a sound one
abbrev pub IsNext : Reading → Reading → Option Piece → Type 0
IsNext old new None = old.at ≡ old.vars.pieces
IsNext old new (Some p) = (old.at < old.vars.pieces) × (new.at ≡ old.at + 1) × (new.vars ≡ old.vars) × IsSoundPiece old.vars.faces_a old.vars.faces_b p

-- On the way there.

-- the piece of the next row, whose corners stand in memory
abbrev pub piece_here : Reading → Piece
piece_here r = piece_with (columns r []) r.at (drop (3 * (r.begin - r.first)) r.corners)

-- one row more
abbrev pub next_row : Reading → Reading
next_row r = record r { at = r.at + 1; begin = r.begin + ring_len (columns r []).ring_size r.at }

-- a reader with no corners in memory, before this row
abbrev pub without_corners : Head → OverlapVars → List (List ℤ) → ℕ → ℕ → Reading
without_corners head vars values begin row = record { head = head; vars = vars; values = values; at = row; begin = begin; corners = []; first = begin; end = row }

-- these are the corners of the rows behind those in memory, up to a row
pub record AreNext (folder : Option Folder) (name : List ℕ) (r : Reading) (corners : List ℤ) (end : ℕ) : Type 0 where
  pub more : r.end < end
  pub within : end ≤ r.vars.pieces
  pub of_file : OnFile folder name (λ bytes. corners ≡ slice_range (numbers_at r.head.file bytes (corner_place r.vars)) (3 * begin_of r r.end) (3 * begin_of r end))
  pub long : length corners ≡ 3 * (begin_of r end - begin_of r r.end)
  pub one : end < r.vars.pieces → InOnePiece r

-- the first row at fault, whatever the corners are
abbrev pub IsRowRefusal : OverlapVars → Columns → FileRefusal FileFault → Type 0
IsRowRefusal v c (Load fault) = ⊥
IsRowRefusal v c (Content (Name fault)) = ⊥
IsRowRefusal v c (Content (Row k)) = row_fault v c ≡ Some k
IsRowRefusal v c (Content (AreaA i)) = ⊥
IsRowRefusal v c (Content (AreaB j)) = ⊥
IsRowRefusal v c (Content NoMemory) = ⊥
