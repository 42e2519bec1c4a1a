-- Pieces as columns of numbers. Source: our own.
use Rattle.std.specs.Prelude.{◌≡◌, ℤ, pos, List, [], ◌∷◌, length, map, slice_index_or}
use Rattle.std.specs.List.{flat_map}
use Rattle.clip.specs.declared.pieces.Piece.{Piece}
use Rattle.clip.specs.declared.columns.Columns.{Columns}
use Rattle.clip.specs.declared.columns.Place.{Place}

-- the source faces, the target faces and the lengths of the rings, piece by piece
abbrev pub source_column : List Piece → List ℤ
source_column pieces = map (λ (p : Piece). pos p.a) pieces

abbrev pub target_column : List Piece → List ℤ
target_column pieces = map (λ (p : Piece). pos p.b) pieces

abbrev pub ring_size_column : List Piece → List ℤ
ring_size_column pieces = map (λ (p : Piece). pos (length p.ring.items)) pieces

-- all rings, one after another
abbrev pub ring_numbers : Piece → List ℤ
ring_numbers p = map (λ n. pos n) p.ring.items

abbrev pub ring_plane_column : List Piece → List ℤ
ring_plane_column pieces = flat_map ring_numbers pieces

-- the x, the y and the z of each corner, one corner after another
abbrev pub triple_of : List ℤ → List ℤ
triple_of c = slice_index_or c 0 (pos 0) ∷ slice_index_or c 1 (pos 0) ∷ slice_index_or c 2 (pos 0) ∷ []

abbrev pub corner_numbers : Piece → List ℤ
corner_numbers p = flat_map triple_of p.corners

abbrev pub corner_column : List Piece → List ℤ
corner_column pieces = flat_map corner_numbers pieces

-- the columns hold these pieces, in this order, and no other
pub record AreColumnsOf (pieces : List Piece) (c : Columns) : Type 0 where
  pub sources : c.sources.items ≡ source_column pieces
  pub targets : c.targets.items ≡ target_column pieces
  pub ring_sizes : c.ring_sizes.items ≡ ring_size_column pieces
  pub ring_planes : c.ring_planes.items ≡ ring_plane_column pieces
  pub corners : c.corners.items ≡ corner_column pieces

-- the place stands behind these pieces: so many pieces, ring numbers and corner components stand before it
pub record IsBehind (before : List Piece) (place : Place) : Type 0 where
  pub pieces : place.pieces ≡ length before
  pub ring_numbers : place.ring_numbers ≡ length (ring_plane_column before)
  pub corner_components : place.corner_components ≡ length (corner_column before)
