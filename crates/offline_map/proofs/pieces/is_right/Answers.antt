use Rattle.std.proofs.Common.{refl}
use Rattle.cone_laws.specs.Ring.{planes_of_pair}
use Rattle.clip.specs.Outlines.{nodes_of}
use Rattle.offline_map.proofs.RightPieces.{corner_nonzero, ring_numbers}
use Rattle.offline_map.proofs.pieces.is_right.Goals as goal

pub are_grid_corners-requires-clause-numbers : goal.are_grid_corners-requires-clause-numbers
are_grid_corners-requires-clause-numbers c =
    ring_numbers c.read_outline.new.outline c.read_outline-2.new.outline _ c.read_outline.ensures.outline c.read_outline-2.ensures.outline (c.if-not-is_ring_of_outlines.ensures.0 refl)

pub are_grid_corners-requires-clause-nonzero : goal.are_grid_corners-requires-clause-nonzero
are_grid_corners-requires-clause-nonzero c =
    let f = nodes_of c.read_outline.new.outline in
    let g = nodes_of c.read_outline-2.new.outline in
    corner_nonzero f g (planes_of_pair f g) _ refl (c.if-not-is_ring_of_outlines.ensures.0 refl)
