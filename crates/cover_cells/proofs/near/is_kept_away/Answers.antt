use Rattle.mesh_check.specs.Mesh.{corners_of}
use Rattle.cover_cells.proofs.Away.{away_by_plane, away_by_edge}
use Rattle.cover_cells.proofs.near.is_kept_away.Goals as goal

pub returns-then-is_behind_a_plane : goal.returns-then-is_behind_a_plane
returns-then-is_behind_a_plane c = λ _ d inside.
    let (t, l, none) = c.is_behind_a_plane.ensures c.if-is_behind_a_plane.true in
    away_by_plane (corners_of c.args.a.now c.args.i) c.args.planes.now d t c.edge_count-edges.ensures.accepted.accepted l none inside

pub returns : goal.returns
returns c = λ e d inside.
    let (t, l, none) = c.is_beyond_an_edge.ensures e in
    away_by_edge (corners_of c.args.a.now c.args.i) c.args.planes.now c.args.corners.now d t
    c.edge_count-edges.ensures.accepted.accepted l c.requires.ring c.requires.at none inside
