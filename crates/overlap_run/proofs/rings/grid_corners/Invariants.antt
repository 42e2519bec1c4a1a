use Rattle.std.proofs.Common.{◌≡◌, ℕ, length, map}
use Rattle.std.specs.List.{range_with_len}
use Rattle.vec_exact.specs.Cycle.{corner}
use Rattle.cone_laws.specs.Ring.{listed, planes_of_pair}
use Rattle.clip.specs.Outlines.{nodes_of}
use Rattle.piece_measure.specs.Grid.{grid_corner_of}
use Rattle.overlap_run.proofs.rings.grid_corners.Given as goal

abbrev pub invariant-loop-t : goal.invariant-loop-t
invariant-loop-t l = l.items.items ≡ map (λ (t : ℕ). grid_corner_of (corner (length l.ring.items) (listed (planes_of_pair (nodes_of l.f) (nodes_of l.g)) l.ring.items) t)) (range_with_len 0 l.t)
