use Rattle.std.proofs.Common.{rules, ◌+◌, ◌-◌, ◌*ℤ◌, ◌+ℤ◌, pos, ℤ, get_or, ap, ap₂, ◌∙◌, arith}
use mir.Syntax.{w32}
use mir.Val.{SFits}
use Rattle.std.proofs.lemmas.Int.{ints}
use Rattle.map_rows.proofs.Groups.{no_row}
use Rattle.apply_map.specs.Values.{carried}
use Rattle.apply_map.proofs.MassSteps.{fits32}
use Rattle.field_mask.specs.declared.shares.Present.{Present}
use Rattle.field_mask.specs.Masked.{is_absent}
use Rattle.field_mask.proofs.PresentSteps.{no_present, present_size, present_next, kept64, kept32}
use Rattle.field_mask.proofs.shares.present_sums.Goals as goal

pub loop-row-init : goal.loop-row-init
loop-row-init c = no_present (carried c.args.values.now c.args.first)

pub with_row-present-requires-clause-least : goal.with_row-present-requires-clause-least
with_row-present-requires-clause-least c =
    let rows = c.args.rows.now in
    let k = c.loop-row.row-index in
    let r = get_or rows k no_row in
    let measure = c.requires.measures k no_row c.loop-row-test.true in
    let kept = kept64 r.s measure in
    let size = present_size c.args.fill c.args.values.now c.args.first rows k c.loop-row.present.part c.loop-row.present.sum c.requires.count c.requires.measures c.loop-row.invariant in
    omega (arith, ints, size.0, kept, measure.0)

pub with_row-present-requires-clause-greatest : goal.with_row-present-requires-clause-greatest
with_row-present-requires-clause-greatest c =
    let rows = c.args.rows.now in
    let k = c.loop-row.row-index in
    let r = get_or rows k no_row in
    let measure = c.requires.measures k no_row c.loop-row-test.true in
    let kept = kept64 r.s measure in
    let size = present_size c.args.fill c.args.values.now c.args.first rows k c.loop-row.present.part c.loop-row.present.sum c.requires.count c.requires.measures c.loop-row.invariant in
    omega (arith, ints, size.1, kept, measure.1, c.loop-row-test.true, c.requires.count)

pub with_row-present-requires-clause-sum : goal.with_row-present-requires-clause-sum
with_row-present-requires-clause-sum c =
    let rows = c.args.rows.now in
    let k = c.loop-row.row-index in
    let r = get_or rows k no_row in
    let measure = c.requires.measures k no_row c.loop-row-test.true in
    let kept = kept64 r.s measure in
    let size = present_size c.args.fill c.args.values.now c.args.first rows k c.loop-row.present.part c.loop-row.present.sum c.requires.count c.requires.measures c.loop-row.invariant in
    size.2

pub loop-row-preserved : goal.loop-row-preserved
loop-row-preserved c =
    let rows = c.args.rows.now in
    let values = c.args.values.now in
    let k = c.loop-row.row-index in
    let r = get_or rows k no_row in
    let p = c.args.first + (r.col - 1) in
    let measure = c.requires.measures k no_row c.loop-row-test.true in
    let f : SFits w32 (get_or values p (pos 0)) = search rules in
    let fits = fits32 (get_or values p (pos 0)) f in
    let kept_s = kept64 r.s measure in
    let kept_v = kept32 (get_or values p (pos 0)) fits in
    let part = c.loop-row.present.part in
    let sum = c.loop-row.present.sum in
    present_next c.args.fill values c.args.first rows k no_row part sum c.with_row-present.result.part c.with_row-present.result.sum c.loop-row-test.true measure fits c.loop-row.invariant
    (λ e. let same = c.with_row-present.ensures.absent (ap (is_absent c.args.fill) kept_v ∙ e) in (ap (λ (x : Present). x.part) same, ap (λ (x : Present). x.sum) same))
    (λ e. (
      c.with_row-present.ensures.part (ap (is_absent c.args.fill) kept_v ∙ e) ∙ ap (λ (x : ℤ). part +ℤ x) kept_s,
      c.with_row-present.ensures.sum (ap (is_absent c.args.fill) kept_v ∙ e) ∙ ap₂ (λ (x y : ℤ). sum +ℤ (x *ℤ y)) kept_s kept_v,
    ))
