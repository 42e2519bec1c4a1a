use Rattle.std.proofs.Common.{refl, ◌∙◌, pos, length}
use Rattle.std.proofs.lemmas.Slice.{pushed}
use Rattle.std.proofs.lemmas.List.Concat.{flat_map-append}
use Rattle.clip.specs.declared.pieces.Piece.{Piece}
use Rattle.clip.specs.Columns.{ring_numbers, ring_plane_column, corner_numbers, corner_column}
use Rattle.clip.proofs.Parts.{column_more, values_more}
use Rattle.clip.proofs.columns.ColumnsPieceList.append_between.Goals as goal

pub returns : goal.returns
returns c = λ pieces before between after p o f t. record {
  sources = values_more (λ (q : Piece). pos q.a) pieces before between after p.sources (c.deref.ensures.value ∙ o.sources) f.pieces t.pieces c.part.ensures.within
      (pushed c.part.result.now refl c.in_ok-extend_from_slice.was c.extend_from_slice.ensures.items);
  targets = values_more (λ (q : Piece). pos q.b) pieces before between after p.targets (c.deref-2.ensures.value ∙ o.targets) f.pieces t.pieces c.part-2.ensures.within
      (pushed c.part-2.result.now refl c.in_ok-extend_from_slice-2.was c.extend_from_slice-2.ensures.items);
  ring_sizes = values_more (λ (q : Piece). pos (length q.ring.items)) pieces before between after p.ring_sizes (c.deref-3.ensures.value ∙ o.ring_sizes) f.pieces t.pieces c.part-3.ensures.within
      (pushed c.part-3.result.now refl c.in_ok-extend_from_slice-3.was c.extend_from_slice-3.ensures.items);
  ring_planes = column_more ring_plane_column (flat_map-append ring_numbers) pieces before between after p.ring_planes (c.deref-4.ensures.value ∙ o.ring_planes) f.ring_numbers t.ring_numbers c.part-4.ensures.within
      (pushed c.part-4.result.now refl c.in_ok-extend_from_slice-4.was c.extend_from_slice-4.ensures.items);
  corners = column_more corner_column (flat_map-append corner_numbers) pieces before between after p.corners (c.deref-5.ensures.value ∙ o.corners) f.corner_components t.corner_components c.part-5.ensures.within
      (pushed c.part-5.result.now refl c.in_ok-extend_from_slice-5.was c.extend_from_slice-5.ensures.items);
}
