-- The document of an overlap, and how long its file is. The whole form is our own.
use Rattle.std.specs.Prelude.{ℕ, ◌+◌, ◌*◌, ◌==◌, ◌≤◌, ℤ, pos, List, [], ◌∷◌, length, All, if◌then◌else◌, codes, ◌≡◌, FitsSigned}
use Rattle.std.specs.List.{sum_by}
use Rattle.std.specs.Int.{w32}
use Rattle.clip.specs.declared.pieces.Piece.{Piece}
use Rattle.clip.specs.Columns.{source_column, target_column, ring_size_column, ring_plane_column, corner_column}
use Rattle.clip.specs.Overlaps.{OverlapParts}
use Rattle.nc_write.specs.declared.NcDoc.{NcDoc}
use Rattle.nc_write.specs.declared.DocDim.{DocDim}
use Rattle.nc_write.specs.declared.DocAtt.{DocAtt}
use Rattle.nc_write.specs.declared.DocVar.{DocVar}
use Rattle.nc_write.specs.declared.Values.TheVariants.{Byte, Int}
use Rattle.nc_write.specs.Extents.{rounded}
use Rattle.exodus_mesh.specs.MeshDocument.{dimension_of}
use Rattle.exodus_mesh.specs.Columns.{variable_of}

abbrev pub attribute_of : List ℕ → ℕ → DocAtt
attribute_of name value = record { name = name; value = pos value }

-- how many places all rings have together
abbrev pub corner_count_of : List Piece → ℕ
corner_count_of pieces = sum_by (λ (p : Piece). length p.ring.items) pieces

-- its ring has 3 to 32 places
abbrev pub HasRingSize : Piece → Type 0
HasRingSize p = (3 ≤ length p.ring.items) × (length p.ring.items ≤ 32)

-- a dimension of length 0 would be the record dimension: without a piece there is no dimension and no variable
abbrev pub if_some : {A : Type 0} → List Piece → List A → List A
if_some [] items = []
if_some (p ∷ ps) items = items

abbrev pub overlap_atts : ℕ → ℕ → ℕ → List DocAtt
overlap_atts faces_a faces_b pieces =
    attribute_of (codes "faces_a") faces_a
    ∷ attribute_of (codes "faces_b") faces_b
    ∷ attribute_of (codes "pieces") pieces
    ∷ []

abbrev pub overlap_dims : ℕ → ℕ → List DocDim
overlap_dims pieces corners =
    dimension_of (codes "num_pieces") pieces
    ∷ dimension_of (codes "num_corners") corners
    ∷ dimension_of (codes "num_dim") 3
    ∷ []

abbrev pub overlap_vars : List Piece → List DocVar
overlap_vars pieces =
    variable_of (codes "source") (0 ∷ []) (Int (source_column pieces))
    ∷ variable_of (codes "target") (0 ∷ []) (Int (target_column pieces))
    ∷ variable_of (codes "ring_size") (0 ∷ []) (Byte (ring_size_column pieces))
    ∷ variable_of (codes "ring_plane") (1 ∷ []) (Byte (ring_plane_column pieces))
    ∷ variable_of (codes "corner") (1 ∷ 2 ∷ []) (Int (corner_column pieces))
    ∷ []

unfoldable pub overlap_document : OverlapParts → NcDoc
overlap_document o = record {
  records = 0;
  dims = if_some o.pieces (overlap_dims (length o.pieces) (corner_count_of o.pieces));
  atts = overlap_atts o.faces_a o.faces_b (length o.pieces);
  vars = if_some o.pieces (overlap_vars o.pieces);
}

-- the length of the file of an overlap, by its counts of pieces and of corners: the header, then the five variables,
-- each filled up to a multiple of 4 bytes
abbrev pub overlap_file_len : ℕ → ℕ → ℕ
overlap_file_len pieces corners = if pieces == 0 then 104 else 392 + 4 * pieces + 4 * pieces + rounded pieces + rounded corners + 12 * corners

-- each corner is three numbers of 32 bits, as it is in every overlap of a program
abbrev pub IsCorner : List ℤ → Type 0
IsCorner c = (length c ≡ 3) × All (FitsSigned w32) c

abbrev pub HasCorners : OverlapParts → Type 0
HasCorners o = All (λ (p : Piece). All IsCorner p.corners) o.pieces
