-- What the calls on rows rely on.
use Rattle.std.specs.Prelude.{◌≡◌, ℕ, ◌+◌, ◌*◌, ◌≤◌, ℤ, List, length, All, unsigned_abs}
use Rattle.clip.specs.declared.pieces.Piece.{Piece}
use Rattle.exodus_mesh.specs.MeshValues.{rows_of}
use Rattle.remap_files.specs.declared.vars.OverlapVars.{OverlapVars}
use Rattle.remap_files.specs.OverlapRows.{Columns, ring_begin, ring_len, ring_at, piece_of}
use Rattle.exodus_mesh.specs.Pairs.{at_row}

-- how many numbers each of the five columns has, where there is a piece
pub record HasLens (v : OverlapVars) (c : Columns) : Type 0 where
  pub source : length c.source ≡ v.pieces
  pub target : length c.target ≡ v.pieces
  pub ring_size : length c.ring_size ≡ v.pieces
  pub ring_plane : length c.ring_plane ≡ v.corners
  pub corner : length c.corner ≡ 3 * v.corners

-- the same of the four columns without the corners
pub record HasRowLens (v : OverlapVars) (c : Columns) : Type 0 where
  pub source : length c.source ≡ v.pieces
  pub target : length c.target ≡ v.pieces
  pub ring_size : length c.ring_size ≡ v.pieces
  pub ring_plane : length c.ring_plane ≡ v.corners

-- the columns with these numbers of corners
abbrev pub with_corners : Columns → List ℤ → Columns
with_corners c corner = record c { corner = corner }

-- the piece of row r, whose corners are the first of these numbers, three by three
abbrev pub piece_with : Columns → ℕ → List ℤ → Piece
piece_with c r corners = piece_of (at_row c.source r) (at_row c.target r) (ring_at c.ring_size c.ring_plane r) (rows_of (ring_len c.ring_size r) 3 corners)

-- the ring of a row that is at no fault
pub record IsGoodRing (ring_size ring_plane : List ℤ) (r : ℕ) : Type 0 where
  pub least_size : 3 ≤ ring_len ring_size r
  pub greatest_size : ring_len ring_size r ≤ 32
  pub inside : ring_begin ring_size r + ring_len ring_size r ≤ length ring_plane
  pub least : All (λ z. 1 ≤ unsigned_abs z) (ring_at ring_size ring_plane r)
  pub greatest : All (λ z. unsigned_abs z ≤ 32) (ring_at ring_size ring_plane r)
