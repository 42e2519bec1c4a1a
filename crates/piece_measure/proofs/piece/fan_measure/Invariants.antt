use Rattle.std.proofs.Common.{◌≡◌, ◌≤◌, ◌-◌, ◌*◌, ◌^◌, pos, unsigned_abs, map, sum, [], get_or}
use Rattle.std.specs.List.{range_with_len}
use Rattle.piece_measure.specs.Piece.{fan_triangle}
use Rattle.piece_measure.specs.Arms.{IsArmOf}
use Rattle.piece_measure.proofs.piece.fan_measure.Given as goal

abbrev pub invariant-loop-t : goal.invariant-loop-t
invariant-loop-t l = record {
  sum_so_far : l.sum ≡ pos (sum (map (fan_triangle l.corners) (range_with_len 1 (l.t - 1))));
  arm : IsArmOf l.before (get_or l.corners l.t []);
  small : unsigned_abs l.sum ≤ (l.t - 1) * 2 ^ 38;
}
