use Rattle.std.proofs.Common.{◌≡◌, length, take, All}
use Rattle.cone_laws.specs.Ring.{listed, planes_of_pair}
use Rattle.clip.specs.Outlines.{nodes_of}
use Rattle.piece_measure.specs.Grid.{IsOnGrid}
use Rattle.offline_map.proofs.RightPieces.{first_corners}
use Rattle.offline_map.proofs.pieces.are_grid_corners.Given as goal

abbrev pub invariant-loop-t : goal.invariant-loop-t
invariant-loop-t l = (take l.t l.corners ≡ first_corners (length l.ring.items) (listed (planes_of_pair (nodes_of l.f) (nodes_of l.g)) l.ring.items) l.t) × All IsOnGrid (take l.t l.corners)
