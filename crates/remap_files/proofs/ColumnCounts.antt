-- How many pieces and corners stand in columns.
use Rattle.std.proofs.Common.{◌≡◌, ◌*◌, ◌≤◌, ◌<◌, ◌^◌, ℕ, pos, length, ap, ◌∙◌, arith}
use Rattle.std.proofs.lemmas.List.{length-map}
use Rattle.std.proofs.lemmas.List.Elements.{recursion_from_All}
use Rattle.clip.specs.declared.pieces.Piece.{Piece}
use Rattle.clip.specs.declared.columns.Columns.{Columns}
use Rattle.clip.specs.Overlaps.{OverlapParts}
use Rattle.remap_files.specs.InColumns.{IsInColumns}
use Rattle.remap_files.specs.OverlapDocument.{HasRingSize, corner_count_of}
use Rattle.remap_files.proofs.OverlapLength.{ring_sizes, greatest_count, length_planes}

pub record HasCounts (o : OverlapParts) (faces_a faces_b : ℕ) (c : Columns) : Type 0 where
  pub pieces : length c.sources.items ≡ length o.pieces
  pub corners : length c.ring_planes.items ≡ corner_count_of o.pieces
  pub few : length o.pieces ≤ 8388608
  pub most : corner_count_of o.pieces ≤ 32 * length o.pieces
  pub source : faces_a < 2 ^ 31
  pub target : faces_b < 2 ^ 31

pub column_counts : (o : OverlapParts) (faces_a faces_b : ℕ) (c : Columns) → IsInColumns o faces_a faces_b c → HasCounts o faces_a faces_b c
column_counts o faces_a faces_b c h = record {
  pieces = ap length h.pieces.sources ∙ length-map o.pieces (λ (p : Piece). pos p.a);
  corners = ap length h.pieces.ring_planes ∙ length_planes o.pieces;
  few = h.sound.count;
  most = greatest_count o.pieces (recursion_from_All HasRingSize o.pieces (ring_sizes o h.sound));
  source = omega (arith, h.sound.source_faces.1, h.source_faces);
  target = omega (arith, h.sound.target_faces.1, h.target_faces);
}
