use Rattle.std.proofs.Common.{rules, take, ◌+◌, ◌-◌, pos, refl, get_or}
use mir.Syntax.{w32, w128}
use mir.Val.{SFits, to_z}
use Rattle.std.proofs.lemmas.List.Elements.{All-take}
use Rattle.map_rows.specs.Maps.{HasMeasure}
use Rattle.map_rows.proofs.Groups.{no_row}
use Rattle.apply_map.specs.Values.{carried}
use Rattle.apply_map.proofs.MassSteps.{at_most_limit, added, fits32}
use Rattle.apply_map.proofs.SumSteps.{few_taken, no_sum, sum_more, sum_size, carried_read}
use Rattle.apply_map.proofs.sums.weighted_sum.Goals as goal

pub loop-row-init : goal.loop-row-init
loop-row-init c = no_sum (carried c.args.values.now c.args.first)

pub overflow_add-sum : goal.overflow_add-sum
overflow_add-sum c =
    let rows = c.args.rows.now in
    let k = c.loop-row.row-index in
    let size = sum_size _ (take k rows) (to_z w128 c.loop-row.sum-bits) (few_taken k rows c.requires.count) (All-take HasMeasure k rows c.requires.measures) c.loop-row.invariant in
    (added c.loop-row.sum-bits (to_z w128 c.loop-row.sum-bits) c.product-sum.result refl (at_most_limit _ size) c.product-sum.ensures.size).0

pub loop-row-preserved : goal.loop-row-preserved
loop-row-preserved c =
    let rows = c.args.rows.now in
    let values = c.args.values.now in
    let k = c.loop-row.row-index in
    let r = get_or rows k no_row in
    let p = c.args.first + (r.col - 1) in
    let size = sum_size _ (take k rows) (to_z w128 c.loop-row.sum-bits) (few_taken k rows c.requires.count) (All-take HasMeasure k rows c.requires.measures) c.loop-row.invariant in
    let step = (added c.loop-row.sum-bits (to_z w128 c.loop-row.sum-bits) c.product-sum.result refl (at_most_limit _ size) c.product-sum.ensures.size).1 in
    let measure = c.requires.measures k no_row c.loop-row-test.true in
    let fits : SFits w32 (get_or values p (pos 0)) = search rules in
    let part = carried_read values c.args.first p r c.product-sum.result measure (fits32 (get_or values p (pos 0)) fits) refl c.product-sum.ensures.value in
    sum_more (carried values c.args.first) rows k no_row (to_z w128 c.loop-row.sum-bits) c.product-sum.result _ (get_or values p (pos 0)) c.loop-row-test.true measure c.loop-row.invariant step part.0 part.1
    (fits32 (get_or values p (pos 0)) fits)
