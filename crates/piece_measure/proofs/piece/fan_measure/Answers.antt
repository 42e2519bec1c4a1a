use Rattle.std.proofs.Common.{◌≡◌, ◌∙◌, ◌+◌, ◌-◌, ℕ, [], map, sum, get_or, ap, arith}
use Rattle.std.proofs.lemmas.Int.{ints}
use Rattle.std.proofs.lemmas.List.FromFn.{sum_by-map-range_with_len_more}
use Rattle.std.specs.List.{range_with_len}
use Rattle.piece_measure.specs.Piece.{fan_triangle}
use Rattle.piece_measure.proofs.piece.fan_measure.Goals as goal

pub loop-t-preserved : goal.loop-t-preserved
loop-t-preserved c =
    let t = c.loop-t.t in
    let fan = fan_triangle c.args.corners.now in
    let next : t + 1 - 1 ≡ t - 1 + 1 = omega arith in
    let more : sum (map fan (range_with_len 1 (t + 1 - 1))) ≡ sum (map fan (range_with_len 1 (t - 1))) + fan t =
    ap (λ (n : ℕ). sum (map fan (range_with_len 1 n))) next ∙ sum_by-map-range_with_len_more (λ x. x) fan 1 (t - 1) t (omega arith) in
    let corners = c.args.corners.now in
    let value =
    c.tri_of_arms-sum.ensures.value (get_or corners 0 []) (get_or corners t []) (get_or corners (t + 1) []) c.make_arm-first.ensures.place c.loop-t.invariant.arm.place c.make_arm-next.ensures.place in
    record {
      sum_so_far = omega (arith, ints, c.loop-t.invariant.sum_so_far, value, more);
      arm = c.make_arm-next.ensures;
      small = omega (arith, ints, c.tri_of_arms-sum.ensures.below, c.loop-t.invariant.small);
    }
