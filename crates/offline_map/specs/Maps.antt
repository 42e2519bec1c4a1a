-- The map of an overlap.
-- Source: Ullrich and Taylor (2015), "Arbitrary-order conservative and consistent remapping and a theory of linear maps", for the map of first order over its own areas.
-- That the measure of a row is a whole number is our own.
use Rattle.std.specs.Prelude.{pos, map}
use Rattle.clip.specs.declared.pieces.Piece.{Piece}
use Rattle.clip.specs.Overlaps.{OverlapParts}
use Rattle.piece_measure.specs.Piece.{piece_measure_of}
use Rattle.map_rows.specs.declared.rows.MapRow.{MapRow}
use Rattle.map_rows.specs.Maps.{MapParts, areas_of, source_of, target_of}

-- the row of a piece: its two faces, and the measure of its corners
abbrev pub row_of : Piece → MapRow
row_of p = record { col = p.a; row = p.b; s = pos (piece_measure_of p.corners) }

-- the map of an overlap: a row for each piece, and each area the sum of its rows
abbrev pub map_of : OverlapParts → MapParts
map_of o =
    let rows = map row_of o.pieces in
    record { n_a = o.faces_a; n_b = o.faces_b; rows = rows; area_a = areas_of source_of o.faces_a rows; area_b = areas_of target_of o.faces_b rows }
